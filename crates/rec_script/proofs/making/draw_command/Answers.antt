-- Each row's operands are read off the words behind its own.
use Rattle.std.proofs.Common.{◌≤◌, refl, arith}
use Rattle.rec_model.specs.declared.command.Cmd.TheVariants.{New, Null, Copy, Get, Put, Value, Same}
use Rattle.rec_script.specs.Made.{written, read, field, label}
use Rattle.rec_script.proofs.Draws.{drawn_one, drawn_two, drawn_three, row_new, row_null, row_copy, row_get, row_put, row_value, row_same}
use Rattle.rec_script.proofs.making.draw_command.Goals as goal

pub returns-in-0-to-3 : goal.returns-in-0-to-3
returns-in-0-to-3 c =
    let most : c.draw.result ≤ 3 = omega (arith, c.in-0-to-3) in
    drawn_two c.draw.result New written label _ _ _ _ _ _ (λ x y z. row_new c.draw.result x y z most) refl c.draw.ensures.value c.draw.ensures.next c.draw_written-reg.ensures.value c.draw_written-reg.ensures.next c.draw-label.ensures.value c.draw-label.ensures.next

pub returns-in-4 : goal.returns-in-4
returns-in-4 c = drawn_one c.draw.result Null written _ _ _ _ (λ x y z. row_null c.draw.result x y z c.in-4.is) refl c.draw.ensures.value c.draw.ensures.next c.draw_written.ensures.value c.draw_written.ensures.next

pub returns-in-5-to-6 : goal.returns-in-5-to-6
returns-in-5-to-6 c =
    let least : 5 ≤ c.draw.result = omega (arith, c.in-5-to-6) in
    let most : c.draw.result ≤ 6 = omega (arith, c.in-5-to-6) in
    drawn_two c.draw.result Copy written read _ _ _ _ _ _ (λ x y z. row_copy c.draw.result x y z least most) refl c.draw.ensures.value c.draw.ensures.next c.draw_written-dst.ensures.value c.draw_written-dst.ensures.next c.draw_read-src.ensures.value c.draw_read-src.ensures.next

pub returns-in-7-to-9 : goal.returns-in-7-to-9
returns-in-7-to-9 c =
    let least : 7 ≤ c.draw.result = omega (arith, c.in-7-to-9) in
    let most : c.draw.result ≤ 9 = omega (arith, c.in-7-to-9) in
    drawn_three c.draw.result Get written read field _ _ _ _ _ _ _ _ (λ x y z. row_get c.draw.result x y z least most) refl c.draw.ensures.value c.draw.ensures.next c.draw_written-dst-in-7-to-9.ensures.value c.draw_written-dst-in-7-to-9.ensures.next c.draw_read-src-in-7-to-9.ensures.value c.draw_read-src-in-7-to-9.ensures.next c.draw_field-field.ensures.value c.draw_field-field.ensures.next

pub returns-in-10-to-13 : goal.returns-in-10-to-13
returns-in-10-to-13 c =
    let least : 10 ≤ c.draw.result = omega (arith, c.in-10-to-13) in
    let most : c.draw.result ≤ 13 = omega (arith, c.in-10-to-13) in
    drawn_three c.draw.result Put read field read _ _ _ _ _ _ _ _ (λ x y z. row_put c.draw.result x y z least most) refl c.draw.ensures.value c.draw.ensures.next c.draw_read-src-in-10-to-13.ensures.value c.draw_read-src-in-10-to-13.ensures.next c.draw_field-field-in-10-to-13.ensures.value c.draw_field-field-in-10-to-13.ensures.next c.draw_read-val.ensures.value c.draw_read-val.ensures.next

pub returns-in-14 : goal.returns-in-14
returns-in-14 c = drawn_one c.draw.result Value read _ _ _ _ (λ x y z. row_value c.draw.result x y z c.in-14.is) refl c.draw.ensures.value c.draw.ensures.next c.draw_read.ensures.value c.draw_read.ensures.next

pub returns-in_default : goal.returns-in_default
returns-in_default c =
    let least : 15 ≤ c.draw.result = omega (arith, c.in_default) in
    drawn_two c.draw.result Same read read _ _ _ _ _ _ (λ x y z. row_same c.draw.result x y z least) refl c.draw.ensures.value c.draw.ensures.next c.draw_read-a.ensures.value c.draw_read-a.ensures.next c.draw_read-b.ensures.value c.draw_read-b.ensures.next
