-- The row is filled part by part.
use Rattle.std.proofs.Common.{◌≡◌, ℕ, ◌+◌, ◌-◌, ◌*◌, List, [], ◌∷◌, ◌++◌, length, map, replicate, ap, ◌∙◌, arith, length-append}
use Rattle.std.specs.Vec.{vec_len}
use Rattle.std.proofs.lemmas.List.{length-map, length-replicate}
use Rattle.rec_word.specs.Mailbox.{crossing_word}
use Rattle.rec_word.specs.declared.mailbox.Mailbox.TheVariants.{Spare}
use Rattle.rec_core.specs.Objects.{early_words}
use Rattle.rec_core.proofs.EarlyWords.{length-early}
use Rattle.rec_world.proofs.Indexed.{filled_up}
use Rattle.rec_world.proofs.Openings.{row_made}
use Rattle.rec_world.proofs.world.opening.open_row.Goals as goal
use Rattle.rec_core.proofs.OpenedFromSeen.{header_of}

pub returns-clause-row : goal.returns-clause-row
returns-clause-row c =
    let slots : ℕ = c.args.config.now.slots in
    let width : ℕ = c.args.config.now.fields in
    let many : ℕ = length c.args.nodes.now in
    let places : ℕ = slots * width in
    let mutators : ℕ = c.args.config.now.mutators in
    let word : ℕ = crossing_word c.args.config.now.first_epoch Spare in
    let words : List ℕ = early_words 0 c.args.fields.now in
    let more : ℕ = (slots - many) * width in
    let nulls : List ℕ = replicate more 0 in
    let headers : List ℕ = map header_of c.args.nodes.now in
    let free : List ℕ = replicate (slots - many) 0 in
    let split : slots ≡ many + (slots - many) = omega (arith, c.requires.few) in
    let product : places ≡ many * width + more = ap (λ n. n * width) split ∙ omega arith in
    let many_words : length words ≡ many * width = length-early 0 c.args.fields.now ∙ c.requires.fields in
    let many_places : length (words ++ nulls) ≡ places = omega (arith, product, many_words, length-append words nulls, length-replicate {A = ℕ} more 0) in
    let many_headers : length ((words ++ nulls) ++ headers) ≡ places + many = omega (arith, many_places, length-append (words ++ nulls) headers, length-map c.args.nodes.now header_of) in
    let all : List ℕ = ((words ++ nulls) ++ headers) ++ free in
    let many_all : length all ≡ places + slots = omega (arith, c.requires.few, many_headers, length-append ((words ++ nulls) ++ headers) free, length-replicate {A = ℕ} (slots - many) 0) in
    let behind : List ℕ = (all ++ c.args.config.now.first_epoch ∷ []) ++ 0 ∷ [] in
    let many_behind : length behind ≡ places + slots + 2 = omega (arith, many_all, length-append all (c.args.config.now.first_epoch ∷ []), length-append (all ++ c.args.config.now.first_epoch ∷ []) (0 ∷ [])) in
    let one : c.add_words.new.row.items ≡ words = c.in_ok-add_words.ensures ∙ ap (λ l. l ++ words) c.in_ok-row.ensures.items in
    let len_one : vec_len c.add_words.new.row ≡ many * width = omega (arith, ap length one, many_words, c.add_words.new.row.ok.0) in
    let two : c.resize.new.self.items ≡ words ++ nulls = c.in_ok-resize.ensures.items ∙ filled_up places _ 0 more _ words one (omega (arith, many_words, product)) (omega (arith, len_one, product)) in
    let three : c.add_headers.new.row.items ≡ (words ++ nulls) ++ headers = c.in_ok-add_headers.ensures.headers ∙ ap (λ l. l ++ headers) two in
    let len_three : vec_len c.add_headers.new.row ≡ places + many = omega (arith, ap length three, many_headers, c.add_headers.new.row.ok.0) in
    let four : c.resize-2.new.self.items ≡ all = c.in_ok-resize-2.ensures.items ∙ filled_up (places + slots) _ 0 (slots - many) _ ((words ++ nulls) ++ headers) three (omega (arith, many_headers, c.requires.few)) (omega (arith, len_three)) in
    let five : c.push.new.self.items ≡ all ++ c.args.config.now.first_epoch ∷ [] = c.in_ok-push.ensures.items ∙ (λ i. four i ++ c.from.ensures i ∷ []) in
    let six : c.push-2.new.self.items ≡ behind = c.in_ok-push-2.ensures.items ∙ ap (λ l. l ++ 0 ∷ []) five in
    let long : vec_len c.push-2.new.self ≡ places + slots + 2 = omega (arith, c.in_ok-push-2.ensures.len, c.in_ok-push.ensures.len, c.in_ok-resize-2.ensures.len) in
    c.in_ok-resize-3.ensures.items
    ∙ filled_up (places + slots + 2 + mutators) _ _ mutators _ behind six (omega (arith, many_behind)) (omega (arith, long))
    ∙ ap (λ x. behind ++ replicate mutators x) c.crossing.ensures
    ∙ row_made words nulls headers free (replicate mutators word) c.args.config.now.first_epoch
