-- What the lines so far have spelled tells where a text stops.
use Rattle.std.proofs.Common.{◌≡◌, inl, inr, ℕ, ◌+◌, ◌<◌, ◌≤◌, List, [], ◌∷◌, ◌++◌, length, get_or, take, drop, refl, sym, ap, subst, ◌∙◌, arith, length-drop}
use Rattle.std.specs.List.{flat_map}
use Rattle.std.specs.Str.{IsUtf8}
use Rattle.std.proofs.lemmas.List.{take_more, drop_more, take_all}
use Rattle.std.proofs.lemmas.List.Elements.{All-more}
use Rattle.rec_model.specs.declared.command.Cmd.{Cmd}
use Rattle.rec_script.specs.declared.error.Kind.{Kind}
use Rattle.rec_script.specs.declared.draft.Draft.{Draft}
use Rattle.rec_script.specs.Lines.{lines, counted, AreUtf8}
use Rattle.rec_script.specs.Script.{ScriptContents, IsScript, IsRefused, Continues, StopsAt, IsFault, IsNeed, mutator_lines, spelled}
use Rattle.rec_script.specs.Drafts.{so_far, IsDraft, IsTaken, IsWrongFirst}
use Rattle.rec_script.proofs.Stopping.{counted-append, stops}
use Rattle.rec_script.proofs.Continuing.{continues}

-- the next line, where the others begin with it
pub record Next (text : List (List ℕ)) (n : ℕ) (line : List ℕ) (more : List (List ℕ)) : Type 0 where
  pub there : n < length text
  pub is : get_or text n [] ≡ line
  pub others : more ≡ drop (n + 1) text

pub next : (text : List (List ℕ)) (n : ℕ) (line : List ℕ) (more : List (List ℕ)) → line ∷ more ≡ drop n text → Next text n line more
next text n line more e =
    let there : n < length text = omega (arith, ap length e, length-drop n text) in
    let both : get_or text n [] ∷ drop (n + 1) text ≡ line ∷ more = sym (drop_more text n [] there) ∙ sym e in
    record { there = there; is = cc; others = cc }

-- what counts with the next line
pub counted_next : (text : List (List ℕ)) (n : ℕ) (line : List ℕ) (more : List (List ℕ)) → Next text n line more → counted (take (n + 1) text) ≡ counted (take n text) ++ counted (line ∷ [])
counted_next text n line more h =
    ap counted (take_more text n [] h.there)
    ∙ ap (λ (l : List ℕ). counted (take n text ++ l ∷ [])) h.is
    ∙ counted-append (take n text) (line ∷ [])

pub utf8_next : (text : List (List ℕ)) (n : ℕ) (line : List ℕ) (more : List (List ℕ)) → Next text n line more → AreUtf8 (take n text) → IsUtf8 line → AreUtf8 (take (n + 1) text)
utf8_next text n line more h before here = All-more IsUtf8 text n [] h.there before (subst IsUtf8 (sym h.is) here)

-- a draft is what this many lines have spelled, and the others are the lines of the rest
pub record IsReadTo (bytes rest : List ℕ) (d : Draft) (n : ℕ) : Type 0 where
  pub draft : IsDraft d
  pub spelt : so_far d ≡ counted (take n (lines bytes))
  pub utf8 : AreUtf8 (take n (lines bytes))
  pub others : lines rest ≡ drop n (lines bytes)
  pub within : n ≤ length (lines bytes)
  pub few : n + length rest ≤ length bytes

-- it has taken the next line then
pub read_on : (bytes rest behind : List ℕ) (before after : Draft) (n : ℕ) → IsReadTo bytes rest before n → IsTaken rest behind (so_far before) (so_far after) → IsDraft after → IsReadTo bytes behind after (n + 1)
read_on bytes rest behind before after n so taken is =
    let h = next (lines bytes) n taken.line (lines behind) (sym taken.first ∙ so.others) in
    record {
      draft = is;
      spelt = taken.more ∙ ap (λ (b : List (List (List ℕ))). b ++ counted (taken.line ∷ [])) so.spelt ∙ sym (counted_next (lines bytes) n taken.line (lines behind) h);
      utf8 = utf8_next (lines bytes) n taken.line (lines behind) h so.utf8 taken.utf8;
      others = h.others;
      within = omega (arith, h.there);
      few = omega (arith, taken.less, so.few);
    }

-- a fault behind what a draft stands for stops the text
stops_at : (d : Draft) (text : List (List ℕ)) (n : ℕ) (line : List ℕ) (more : List (List ℕ)) (kind : Kind) → IsDraft d → so_far d ≡ counted (take n text) → AreUtf8 (take n text) → Next text n line more → IsFault (so_far d) line kind → StopsAt text n kind
stops_at d text n line more kind is spelt utf8 h fault =
    let here : IsFault (counted (take n text)) (get_or text n []) kind =
    subst (λ (l : List ℕ). IsFault (counted (take n text)) l kind) (sym h.is) (subst (λ (b : List (List (List ℕ))). IsFault b line kind) spelt fault) in
    record {
      there = h.there;
      before = continues d (take n text) is utf8 spelt;
      not_with = subst (λ (t : List (List ℕ)). ¬ Continues t) (sym (take_more text n [] h.there)) (stops (take n text) (get_or text n []) kind here);
      fault = here;
    }

refused_at : (d : Draft) (bytes : List ℕ) (n number : ℕ) (line : List ℕ) (more : List (List ℕ)) (kind : Kind) → length bytes ≤ 16777216 → IsDraft d → so_far d ≡ counted (take n (lines bytes)) → AreUtf8 (take n (lines bytes)) → Next (lines bytes) n line more
    → (number ≡ n + 1) × IsFault (so_far d) line kind → IsRefused bytes number kind
refused_at d bytes n number line more kind few is spelt utf8 h fault = inr (record { few = few; named = inl (n, fault.0, stops_at d (lines bytes) n line more kind is spelt utf8 h fault.1) })

pub refused_first : (d : Draft) (bytes : List ℕ) (n number : ℕ) (text : List (List ℕ)) (kind : Kind) → length bytes ≤ 16777216 → IsDraft d → so_far d ≡ counted (take n (lines bytes)) → AreUtf8 (take n (lines bytes)) → text ≡ drop n (lines bytes)
    → (number ≡ n + 1) × IsWrongFirst text (so_far d) kind → IsRefused bytes number kind
refused_first d bytes n number text kind few is spelt utf8 others h =
    refused_at d bytes n number h.1.line h.1.others kind few is spelt utf8 (next (lines bytes) n h.1.line h.1.others (sym h.1.first ∙ others)) (h.0, h.1.fault)

-- ---- the end of a text

three_lines : (css : List (List Cmd)) → 1 ≤ length css → flat_map mutator_lines css ≡ [] → ⊥
three_lines [] some e = omega arith
three_lines (cmds ∷ css) some e = omega (arith, ap length e)

-- an open need is no script
pub need_no_script : (before : List (List (List ℕ))) (kind : Kind) (contents : ScriptContents) → IsNeed before kind → IsScript contents → before ≡ spelled contents → ⊥
need_no_script before _ contents (IsNeed.of_header none) script e = omega (arith, ap length (sym none ∙ e))
need_no_script before _ contents (IsNeed.of_heap v known one) script e = omega (arith, ap length (sym one ∙ e))
need_no_script before _ contents (IsNeed.of_mutator v s f r known heap two) script e = three_lines contents.commands script.some_mutators (sym (ap (drop 2) (sym two ∙ e)))

-- what the whole text has spelled
pub record Ended (d : Draft) (text : List (List ℕ)) (n : ℕ) : Type 0 where
  pub count : n ≡ length text
  pub spelt : so_far d ≡ counted text
  pub utf8 : AreUtf8 text

pub ended : (d : Draft) (text rest : List (List ℕ)) (n : ℕ) → length rest ≡ 0 → rest ≡ drop n text → n ≤ length text → so_far d ≡ counted (take n text) → AreUtf8 (take n text) → Ended d text n
ended d text rest n none others within spelt utf8 =
    let all : length text ≤ n = omega (arith, ap length others, length-drop n text) in
    let whole : take n text ≡ text = take_all n text all in
    record { count = omega arith; spelt = spelt ∙ ap counted whole; utf8 = subst AreUtf8 whole utf8 }

pub refused_open : (d : Draft) (bytes : List ℕ) (n number : ℕ) (kind named : Kind) → length bytes ≤ 16777216 → IsDraft d → Ended d (lines bytes) n → IsNeed (so_far d) named → named ≡ kind → number ≡ n + 1 → IsRefused bytes number kind
refused_open d bytes n number kind named few is h need same at =
    let open-need : IsNeed (so_far d) kind = subst (IsNeed (so_far d)) same need in
    inr (record {
      few = few;
      named = inr (
        at ∙ ap (λ (m : ℕ). m + 1) h.count,
        record {
          before = continues d (lines bytes) is h.utf8 h.spelt;
          not_whole = λ contents spells. need_no_script (so_far d) kind contents open-need spells.limits (h.spelt ∙ spells.counted_are);
          need = subst (λ (b : List (List (List ℕ))). IsNeed b kind) h.spelt open-need;
        },
      );
    })

pub no_lines : (bytes : List ℕ) → length bytes ≡ 0 → length (lines bytes) ≡ 0
no_lines [] e = refl
no_lines (c ∷ cs) e = absurd (omega arith)
