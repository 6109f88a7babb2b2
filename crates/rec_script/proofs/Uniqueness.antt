-- A text is refused in one way.
use Rattle.std.proofs.Common.{◌≡◌, ◌⊎◌, inl, inr, ℕ, ◌+◌, ◌<◌, ◌≤◌, List, [], ◌∷◌, ◌++◌, length, get_or, take, drop, refl, sym, ap, subst, ◌∙◌, arith, append_assoc}
use Rattle.std.specs.List.{flat_map}
use Rattle.std.proofs.lemmas.Bool.{cases_lt}
use Rattle.std.proofs.lemmas.List.{append-nil, take-append-drop, take-take}
use Rattle.rec_model.specs.declared.command.Cmd.{Cmd}
use Rattle.rec_script.specs.declared.error.Kind.{Kind}
use Rattle.rec_script.specs.declared.error.Kind.TheVariants.{TooManyMutators}
use Rattle.rec_script.specs.Behind.{GoOn, IsRefusedBehind, IsWrongLine, Numbers, SpellsMutators, StaysOpenBehind, StopsBehind, heading}
use Rattle.rec_script.specs.Lines.{lines, words, counted}
use Rattle.rec_script.specs.Script.{ScriptContents, IsScript, IsRefused, Spells, Continues, StopsAt, StaysOpen, IsFault, IsNeed, Fits, IsBadCommand, IsRight, IsWrong, AreWrong, limits_of, last_commands, header, heap_line, mutator_line, mutator_lines, spelled}
use Rattle.rec_script.proofs.Numerals.{same_number}
use Rattle.rec_script.proofs.Commands.{same_limits}
use Rattle.rec_script.proofs.Regrouping.{same_script}
use Rattle.rec_script.proofs.Continuing.{continues_before}
use Rattle.rec_script.proofs.Plainness.{plain_mutator, utf8_of_words}

-- ---- operands

wrong_once : (limit : ℕ × Kind) (word : List ℕ) (a b : Kind) → IsWrong limit word a → IsWrong limit word b → a ≡ b
wrong_once limit word a b (inl x) (inl y) = x.0 ∙ sym y.0
wrong_once limit word a b (inl x) (inr y) = absurd (x.1 y.0 y.1)
wrong_once limit word a b (inr x) (inl y) = absurd (y.1 x.0 x.1)
wrong_once limit word a b (inr x) (inr y) = x.3 ∙ sym y.3

not_right : (limit : ℕ × Kind) (word : List ℕ) (kind : Kind) → IsWrong limit word kind → IsRight limit word → ⊥
not_right limit word kind (inl x) right = x.1 right.0 right.1
not_right limit word kind (inr x) right = omega (arith, same_number word x.0 right.0 x.1 right.1, x.2, right.2)

are_wrong_once : (limits : List (ℕ × Kind)) (operands : List (List ℕ)) (a b : Kind) → AreWrong limits operands a → AreWrong limits operands b → a ≡ b
are_wrong_once [] operands a b x y = absurd x
are_wrong_once (limit ∷ limits) [] a b x y = absurd x
are_wrong_once (limit ∷ limits) (word ∷ operands) a b (inl x) (inl y) = wrong_once limit word a b x y
are_wrong_once (limit ∷ limits) (word ∷ operands) a b (inl x) (inr y) = absurd (not_right limit word a x y.0)
are_wrong_once (limit ∷ limits) (word ∷ operands) a b (inr x) (inl y) = absurd (not_right limit word b y x.0)
are_wrong_once (limit ∷ limits) (word ∷ operands) a b (inr x) (inr y) = are_wrong_once limits operands a b x.1 y.1

-- ---- commands

bad_command_once : (v r f : ℕ) (cmds : List Cmd) (line : List (List ℕ)) (a b : Kind) → IsBadCommand v r f cmds line a → IsBadCommand v r f cmds line b → a ≡ b
bad_command_once v r f cmds line _ _ (IsBadCommand.gone gone) (IsBadCommand.gone gone') = refl
bad_command_once v r f cmds line _ _ (IsBadCommand.gone gone) (IsBadCommand.unknown none) = refl
bad_command_once v r f cmds line _ _ (IsBadCommand.gone gone) (IsBadCommand.too_many cmd stays its shape full) = absurd (stays gone)
bad_command_once v r f cmds line _ b (IsBadCommand.gone gone) (IsBadCommand.operand cmd _ stays its shape room wrong) = absurd (stays gone)
bad_command_once v r f cmds line _ _ (IsBadCommand.unknown none) (IsBadCommand.gone gone) = refl
bad_command_once v r f cmds line _ _ (IsBadCommand.unknown none) (IsBadCommand.unknown none') = refl
bad_command_once v r f cmds line _ _ (IsBadCommand.unknown none) (IsBadCommand.too_many cmd stays its shape full) = absurd (none cmd its shape)
bad_command_once v r f cmds line _ b (IsBadCommand.unknown none) (IsBadCommand.operand cmd _ stays its shape room wrong) = absurd (none cmd its shape)
bad_command_once v r f cmds line _ _ (IsBadCommand.too_many cmd stays its shape full) (IsBadCommand.gone gone) = absurd (stays gone)
bad_command_once v r f cmds line _ _ (IsBadCommand.too_many cmd stays its shape full) (IsBadCommand.unknown none) = absurd (none cmd its shape)
bad_command_once v r f cmds line _ _ (IsBadCommand.too_many cmd stays its shape full) (IsBadCommand.too_many cmd' stays' its' shape' full') = refl
bad_command_once v r f cmds line _ b (IsBadCommand.too_many cmd stays its shape full) (IsBadCommand.operand cmd' _ stays' its' shape' room wrong) = absurd (omega arith)
bad_command_once v r f cmds line a _ (IsBadCommand.operand cmd _ stays its shape room wrong) (IsBadCommand.gone gone) = absurd (stays gone)
bad_command_once v r f cmds line a _ (IsBadCommand.operand cmd _ stays its shape room wrong) (IsBadCommand.unknown none) = absurd (none cmd its shape)
bad_command_once v r f cmds line a _ (IsBadCommand.operand cmd _ stays its shape room wrong) (IsBadCommand.too_many cmd' stays' its' shape' full) = absurd (omega arith)
bad_command_once v r f cmds line a b (IsBadCommand.operand cmd _ stays its shape room wrong) (IsBadCommand.operand cmd' _ stays' its' shape' room' wrong') =
    are_wrong_once (limits_of r f cmd) (drop 1 line) a b wrong (subst (λ (ls : List (ℕ × Kind)). AreWrong ls (drop 1 line) b) (same_limits r f cmd' cmd (sym shape'.0 ∙ shape.0)) wrong')

-- ---- lines

-- a script has three lines that count
three : (contents : ScriptContents) → IsScript contents → 3 ≤ length (spelled contents)
three contents script = omega (arith, some contents.commands script.some_mutators)
  where
    some : (css : List (List Cmd)) → 1 ≤ length css → 1 ≤ length (flat_map mutator_lines css)
    some [] h = absurd (omega arith)
    some (cmds ∷ css) h = omega arith

lengths : (before : List (List (List ℕ))) (x y : List (List (List ℕ))) → before ≡ x → before ≡ y → length x ≡ length y
lengths before x y a b = ap length (sym a ∙ b)

fits_once : (before : List (List (List ℕ))) (line : List (List ℕ)) (a b : Kind) → Fits before line a → Fits before line b → a ≡ b
fits_once before line _ _ (Fits.no_header none wrong) (Fits.no_header none' wrong') = refl
fits_once before line _ _ (Fits.no_header none wrong) (Fits.bad_heap v' known' one' wrong') = absurd (omega (arith, lengths before ([]) (header v' ∷ []) none one'))
fits_once before line _ _ (Fits.no_header none wrong) (Fits.no_mutator v' s' f' r' known' heap' two' wrong') = absurd (omega (arith, lengths before ([]) (header v' ∷ heap_line s' f' r' ∷ []) none two'))
fits_once before line _ _ (Fits.no_header none wrong) (Fits.too_many_mutators mine' is-mine' spelt' is' full') = absurd (omega (arith, lengths before ([]) (spelled mine') none spelt', three mine' is-mine'))
fits_once before line _ b (Fits.no_header none wrong) (Fits.bad_command mine' _ is-mine' spelt' no-mutator' bad') = absurd (omega (arith, lengths before ([]) (spelled mine') none spelt', three mine' is-mine'))
fits_once before line _ _ (Fits.bad_heap v known one wrong) (Fits.no_header none' wrong') = absurd (omega (arith, lengths before (header v ∷ []) ([]) one none'))
fits_once before line _ _ (Fits.bad_heap v known one wrong) (Fits.bad_heap v' known' one' wrong') = refl
fits_once before line _ _ (Fits.bad_heap v known one wrong) (Fits.no_mutator v' s' f' r' known' heap' two' wrong') = absurd (omega (arith, lengths before (header v ∷ []) (header v' ∷ heap_line s' f' r' ∷ []) one two'))
fits_once before line _ _ (Fits.bad_heap v known one wrong) (Fits.too_many_mutators mine' is-mine' spelt' is' full') = absurd (omega (arith, lengths before (header v ∷ []) (spelled mine') one spelt', three mine' is-mine'))
fits_once before line _ b (Fits.bad_heap v known one wrong) (Fits.bad_command mine' _ is-mine' spelt' no-mutator' bad') = absurd (omega (arith, lengths before (header v ∷ []) (spelled mine') one spelt', three mine' is-mine'))
fits_once before line _ _ (Fits.no_mutator v s f r known heap two wrong) (Fits.no_header none' wrong') = absurd (omega (arith, lengths before (header v ∷ heap_line s f r ∷ []) ([]) two none'))
fits_once before line _ _ (Fits.no_mutator v s f r known heap two wrong) (Fits.bad_heap v' known' one' wrong') = absurd (omega (arith, lengths before (header v ∷ heap_line s f r ∷ []) (header v' ∷ []) two one'))
fits_once before line _ _ (Fits.no_mutator v s f r known heap two wrong) (Fits.no_mutator v' s' f' r' known' heap' two' wrong') = refl
fits_once before line _ _ (Fits.no_mutator v s f r known heap two wrong) (Fits.too_many_mutators mine' is-mine' spelt' is' full') = absurd (omega (arith, lengths before (header v ∷ heap_line s f r ∷ []) (spelled mine') two spelt', three mine' is-mine'))
fits_once before line _ b (Fits.no_mutator v s f r known heap two wrong) (Fits.bad_command mine' _ is-mine' spelt' no-mutator' bad') = absurd (omega (arith, lengths before (header v ∷ heap_line s f r ∷ []) (spelled mine') two spelt', three mine' is-mine'))
fits_once before line _ _ (Fits.too_many_mutators mine is-mine spelt is full) (Fits.no_header none' wrong') = absurd (omega (arith, lengths before (spelled mine) ([]) spelt none', three mine is-mine))
fits_once before line _ _ (Fits.too_many_mutators mine is-mine spelt is full) (Fits.bad_heap v' known' one' wrong') = absurd (omega (arith, lengths before (spelled mine) (header v' ∷ []) spelt one', three mine is-mine))
fits_once before line _ _ (Fits.too_many_mutators mine is-mine spelt is full) (Fits.no_mutator v' s' f' r' known' heap' two' wrong') = absurd (omega (arith, lengths before (spelled mine) (header v' ∷ heap_line s' f' r' ∷ []) spelt two', three mine is-mine))
fits_once before line _ _ (Fits.too_many_mutators mine is-mine spelt is full) (Fits.too_many_mutators mine' is-mine' spelt' is' full') = refl
fits_once before line _ b (Fits.too_many_mutators mine is-mine spelt is full) (Fits.bad_command mine' _ is-mine' spelt' no-mutator' bad') = absurd (no-mutator' is)
fits_once before line a _ (Fits.bad_command mine _ is-mine spelt no-mutator bad) (Fits.no_header none' wrong') = absurd (omega (arith, lengths before (spelled mine) ([]) spelt none', three mine is-mine))
fits_once before line a _ (Fits.bad_command mine _ is-mine spelt no-mutator bad) (Fits.bad_heap v' known' one' wrong') = absurd (omega (arith, lengths before (spelled mine) (header v' ∷ []) spelt one', three mine is-mine))
fits_once before line a _ (Fits.bad_command mine _ is-mine spelt no-mutator bad) (Fits.no_mutator v' s' f' r' known' heap' two' wrong') = absurd (omega (arith, lengths before (spelled mine) (header v' ∷ heap_line s' f' r' ∷ []) spelt two', three mine is-mine))
fits_once before line a _ (Fits.bad_command mine _ is-mine spelt no-mutator bad) (Fits.too_many_mutators mine' is-mine' spelt' is' full') = absurd (no-mutator is')
fits_once before line a b (Fits.bad_command mine _ is-mine spelt no-mutator bad) (Fits.bad_command mine' _ is-mine' spelt' no-mutator' bad') =
    let same : mine' ≡ mine = same_script mine' mine is-mine' is-mine (sym spelt' ∙ spelt) in
    bad_command_once mine.version mine.registers mine.fields (last_commands mine.commands) line a b bad (subst (λ (c : ScriptContents). IsBadCommand c.version c.registers c.fields (last_commands c.commands) line b) same bad')

fault_once : (before : List (List (List ℕ))) (line : List ℕ) (a b : Kind) → IsFault before line a → IsFault before line b → a ≡ b
fault_once before line _ _ (IsFault.not_utf8 none) (IsFault.not_utf8 none') = refl
fault_once before line _ b (IsFault.not_utf8 none) (IsFault.bad_words _ utf8 counts fits) = absurd (none utf8)
fault_once before line a _ (IsFault.bad_words _ utf8 counts fits) (IsFault.not_utf8 none) = absurd (none utf8)
fault_once before line a b (IsFault.bad_words _ utf8 counts fits) (IsFault.bad_words _ utf8' counts' fits') = fits_once before (words line) a b fits fits'

need_once : (before : List (List (List ℕ))) (a b : Kind) → IsNeed before a → IsNeed before b → a ≡ b
need_once before _ _ (IsNeed.of_header none) (IsNeed.of_header none') = refl
need_once before _ _ (IsNeed.of_header none) (IsNeed.of_heap v' known' one') = absurd (omega (arith, lengths before ([]) (header v' ∷ []) none one'))
need_once before _ _ (IsNeed.of_header none) (IsNeed.of_mutator v' s' f' r' known' heap' two') = absurd (omega (arith, lengths before ([]) (header v' ∷ heap_line s' f' r' ∷ []) none two'))
need_once before _ _ (IsNeed.of_heap v known one) (IsNeed.of_header none') = absurd (omega (arith, lengths before (header v ∷ []) ([]) one none'))
need_once before _ _ (IsNeed.of_heap v known one) (IsNeed.of_heap v' known' one') = refl
need_once before _ _ (IsNeed.of_heap v known one) (IsNeed.of_mutator v' s' f' r' known' heap' two') = absurd (omega (arith, lengths before (header v ∷ []) (header v' ∷ heap_line s' f' r' ∷ []) one two'))
need_once before _ _ (IsNeed.of_mutator v s f r known heap two) (IsNeed.of_header none') = absurd (omega (arith, lengths before (header v ∷ heap_line s f r ∷ []) ([]) two none'))
need_once before _ _ (IsNeed.of_mutator v s f r known heap two) (IsNeed.of_heap v' known' one') = absurd (omega (arith, lengths before (header v ∷ heap_line s f r ∷ []) (header v' ∷ []) two one'))
need_once before _ _ (IsNeed.of_mutator v s f r known heap two) (IsNeed.of_mutator v' s' f' r' known' heap' two') = refl

-- ---- texts

-- the first lines of lines that are continued are continued
front_continues : (before after : List (List ℕ)) → Continues (before ++ after) → Continues before
front_continues before [] on = (on.0, on.1, subst (λ (t : List (List ℕ)). Spells (t ++ on.0) on.1) (append-nil before) on.2)
front_continues before (line ∷ after) on = continues_before before line (front_continues (before ++ line ∷ []) after (subst (λ (t : List (List ℕ)). Continues t) (sym (append_assoc before (line ∷ []) after)) on))

take_of_take : (m n : ℕ) (text : List (List ℕ)) → m ≤ n → Continues (take n text) → Continues (take m text)
take_of_take m n text le on = front_continues (take m text) (drop m (take n text)) (subst (λ (t : List (List ℕ)). Continues t) (sym (take-append-drop m (take n text)) ∙ ap (λ (t : List (List ℕ)). t ++ drop m (take n text)) (take-take m n text le)) on)

not_earlier : (text : List (List ℕ)) (m n : ℕ) (a b : Kind) → StopsAt text m a → StopsAt text n b → m < n → ⊥
not_earlier text m n a b x y lt = x.not_with (take_of_take (m + 1) n text (omega arith) y.before)

not_open : (text : List (List ℕ)) (n : ℕ) (a b : Kind) → StopsAt text n a → StaysOpen text b → ⊥
not_open text n a b x y = x.not_with (front_continues (take (n + 1) text) (drop (n + 1) text) (subst (λ (t : List (List ℕ)). Continues t) (sym (take-append-drop (n + 1) text)) y.before))

stops_once : (text : List (List ℕ)) (m n : ℕ) (a b : Kind) → StopsAt text m a → StopsAt text n b → (m ≡ n) × (a ≡ b)
stops_once text m n a b x y = elim (cases_lt m n) [
  | inl lt ↦ absurd (not_earlier text m n a b x y lt)
  | inr ge ↦ elim (cases_lt n m) [
    | inl gt ↦ absurd (not_earlier text n m b a y x gt)
    | inr le ↦
        let same : n ≡ m = omega arith in
        (sym same, fault_once (counted (take m text)) (get_or text m []) a b x.fault (subst (λ (k : ℕ). IsFault (counted (take k text)) (get_or text k []) b) same y.fault))
  ]
]

pub refused_once : (bytes : List ℕ) (line other : ℕ) (kind wrong : Kind) → IsRefused bytes line kind → IsRefused bytes other wrong → (line ≡ other) × (kind ≡ wrong)
refused_once bytes line other kind wrong (inl x) (inl y) = (x.whole ∙ sym y.whole, x.named ∙ sym y.named)
refused_once bytes line other kind wrong (inl x) (inr y) = absurd (omega (arith, x.many, y.few))
refused_once bytes line other kind wrong (inr x) (inl y) = absurd (omega (arith, y.many, x.few))
refused_once bytes line other kind wrong (inr x) (inr y) = named x.named y.named
  where
    named : ((n : ℕ) × (line ≡ n + 1) × StopsAt (lines bytes) n kind) ⊎ ((line ≡ length (lines bytes) + 1) × StaysOpen (lines bytes) kind)
        → ((n : ℕ) × (other ≡ n + 1) × StopsAt (lines bytes) n wrong) ⊎ ((other ≡ length (lines bytes) + 1) × StaysOpen (lines bytes) wrong) → (line ≡ other) × (kind ≡ wrong)
    named (inl x) (inl y) =
        let once = stops_once (lines bytes) x.0 y.0 kind wrong x.2 y.2 in
        (x.1 ∙ ap (λ (n : ℕ). n + 1) once.0 ∙ sym y.1, once.1)
    named (inl x) (inr y) = absurd (not_open (lines bytes) x.0 kind wrong x.2 y.1)
    named (inr x) (inl y) = absurd (not_open (lines bytes) y.0 wrong kind y.2 x.1)
    named (inr x) (inr y) = (x.0 ∙ sym y.0, need_once (counted (lines bytes)) kind wrong x.1.need y.1.need)

-- ---- mutators behind a heap that is told before

-- a mutator's line behind as many as the heap has
mutator_fits : (before : List (List (List ℕ))) (contents : ScriptContents) (kind : Kind) → IsScript contents → before ≡ spelled contents → Fits before mutator_line kind → kind ≡ TooManyMutators
mutator_fits before mine kind is-mine spelt (Fits.no_header none wrong) = absurd (omega (arith, lengths before ([]) (spelled mine) none spelt, three mine is-mine))
mutator_fits before mine kind is-mine spelt (Fits.bad_heap v known one wrong) = absurd (omega (arith, lengths before (header v ∷ []) (spelled mine) one spelt, three mine is-mine))
mutator_fits before mine kind is-mine spelt (Fits.no_mutator v s f r known heap two wrong) = absurd (wrong refl)
mutator_fits before mine kind is-mine spelt (Fits.too_many_mutators other is-other spelt' is full) = refl
mutator_fits before mine kind is-mine spelt (Fits.bad_command other _ is-other spelt' no-mutator bad) = absurd (no-mutator refl)

mutator_faults : (before : List (List (List ℕ))) (line : List ℕ) (contents : ScriptContents) (kind : Kind) → IsScript contents → before ≡ spelled contents → words line ≡ mutator_line → IsFault before line kind → kind ≡ TooManyMutators
mutator_faults before line mine kind is-mine spelt is (IsFault.not_utf8 none) = absurd (none (utf8_of_words line mutator_line is plain_mutator))
mutator_faults before line mine kind is-mine spelt is (IsFault.bad_words _ utf8 counts fits) = mutator_fits before mine kind is-mine spelt (subst (λ (ws : List (List ℕ)). Fits before ws kind) is fits)

wrong_line_once : (h : Numbers) (before : List (List (List ℕ))) (line : List ℕ) (a b : Kind) → IsWrongLine h before line a → IsWrongLine h before line b → a ≡ b
wrong_line_once h before line a b (IsWrongLine.fault _ x) (IsWrongLine.fault _ y) = fault_once before line a b x y
wrong_line_once h before line a _ (IsWrongLine.fault _ x) (IsWrongLine.one_more mine is-mine spelt is full) = mutator_faults before line mine a is-mine spelt is x
wrong_line_once h before line _ b (IsWrongLine.one_more mine is-mine spelt is full) (IsWrongLine.fault _ y) = sym (mutator_faults before line mine b is-mine spelt is y)
wrong_line_once h before line _ _ (IsWrongLine.one_more mine is-mine spelt is full) (IsWrongLine.one_more other is-other spelt' is' full') = refl

front_goes_on : (h : Numbers) (before after : List (List ℕ)) → GoOn h (before ++ after) → GoOn h before
front_goes_on h before after on = (after ++ on.0, on.1, subst (λ (t : List (List ℕ)). SpellsMutators h t on.1) (append_assoc before after on.0) on.2)

not_earlier_behind : (h : Numbers) (text : List (List ℕ)) (m n : ℕ) (a b : Kind) → StopsBehind h text m a → StopsBehind h text n b → m < n → ⊥
not_earlier_behind h text m n a b x y lt =
    x.not_with (front_goes_on h (take (m + 1) text) (drop (m + 1) (take n text)) (subst (λ (t : List (List ℕ)). GoOn h t) (sym (take-append-drop (m + 1) (take n text)) ∙ ap (λ (t : List (List ℕ)). t ++ drop (m + 1) (take n text)) (take-take (m + 1) n text (omega arith))) y.before))

not_open_behind : (h : Numbers) (text : List (List ℕ)) (n : ℕ) (a b : Kind) → StopsBehind h text n a → StaysOpenBehind h text b → ⊥
not_open_behind h text n a b x y = x.not_with (front_goes_on h (take (n + 1) text) (drop (n + 1) text) (subst (λ (t : List (List ℕ)). GoOn h t) (sym (take-append-drop (n + 1) text)) y.before))

stops_once_behind : (h : Numbers) (text : List (List ℕ)) (m n : ℕ) (a b : Kind) → StopsBehind h text m a → StopsBehind h text n b → (m ≡ n) × (a ≡ b)
stops_once_behind h text m n a b x y = elim (cases_lt m n) [
  | inl lt ↦ absurd (not_earlier_behind h text m n a b x y lt)
  | inr ge ↦ elim (cases_lt n m) [
    | inl gt ↦ absurd (not_earlier_behind h text n m b a y x gt)
    | inr le ↦
        let same : n ≡ m = omega arith in
        (sym same, wrong_line_once h (heading h ++ counted (take m text)) (get_or text m []) a b x.wrong (subst (λ (k : ℕ). IsWrongLine h (heading h ++ counted (take k text)) (get_or text k []) b) same y.wrong))
  ]
]

pub refused_behind_once : (h : Numbers) (bytes : List ℕ) (line number other : ℕ) (kind wrong : Kind) → IsRefusedBehind h bytes line number kind → IsRefusedBehind h bytes line other wrong → (number ≡ other) × (kind ≡ wrong)
refused_behind_once h bytes line number other kind wrong (inl x) (inl y) =
    let once = stops_once_behind h (lines bytes) x.0 y.0 kind wrong x.2 y.2 in
    (x.1 ∙ ap (λ (n : ℕ). line + n + 1) once.0 ∙ sym y.1, once.1)
refused_behind_once h bytes line number other kind wrong (inl x) (inr y) = absurd (not_open_behind h (lines bytes) x.0 kind wrong x.2 y.1)
refused_behind_once h bytes line number other kind wrong (inr x) (inl y) = absurd (not_open_behind h (lines bytes) y.0 wrong kind y.2 x.1)
refused_behind_once h bytes line number other kind wrong (inr x) (inr y) = (x.0 ∙ sym y.0, x.1.need ∙ sym y.1.need)
