-- Runs of turns for the machine that is at work.
use Rattle.std.proofs.Common.{◌≡◌, ℕ, ◌+◌, ◌-◌, ◌<◌, Option, IsSome, refl, sym, ap, subst, ◌∙◌, arith}
use Rattle.std.proofs.lemmas.List.{length-map}
use Rattle.rec_collector.proofs.Common.{Op, State, Next, IsGiven, IsGivenAt, IsMachine, IsWork, KeepsSizes, Private, parts_of, Phase, Closing, Releasing, Freeing, Trying, Preparing, came, came_turn, cleared, ended_if, moved, next_in, took_at, took_of, turn_at, turn_of, with_parts, worked}
use Rattle.rec_collector.specs.Running.{Led, Runs, Turned, before_last}
use Rattle.rec_collector.specs.declared.turn.Turn.{Turn}
use Rattle.rec_collector.specs.declared.turn.Turn.TheVariants.{Moved}
use Rattle.rec_collector.proofs.Always.{turns_fit}
use Rattle.rec_collector.proofs.Goings.{with_counts}
use Rattle.rec_collector.proofs.Keeping.{came_keeps, turned_keeps, work_lands, work_took}
use Rattle.rec_collector.proofs.Landing.{Lands, landed, landed_sizes}

-- the number of slots and of what there is besides stays
pub same_sizes : (p : Private) → KeepsSizes p p
same_sizes p = record { slots = refl; fields = refl; registers = refl; capacity = refl; policy = refl; mutators = refl }

pub sizes_on : {a b d : Private} → KeepsSizes a b → KeepsSizes b d → KeepsSizes a d
sizes_on x y = record { slots = y.slots ∙ x.slots; fields = y.fields ∙ x.fields; registers = y.registers ∙ x.registers; capacity = y.capacity ∙ x.capacity; policy = y.policy ∙ x.policy; mutators = y.mutators ∙ x.mutators }

pub ended_sizes : (p : Private) (phase : Phase) → IsMachine p → KeepsSizes p (ended_if phase p)
ended_sizes p (Closing n) k = record { slots = refl; fields = refl; registers = refl; capacity = refl; policy = refl; mutators = length-map p.older cleared ∙ k.both }
ended_sizes p _ k = same_sizes p

-- where a machine is at work, no collection ends
stays_at : (p : Private) (phase : Phase) → IsWork phase → (ended_if phase p ≡ p) × (came_turn p.epoch phase ≡ Moved)
stays_at p (Releasing m) w = (refl, refl)
stays_at p (Freeing m) w = (refl, refl)
stays_at p (Trying m) w = (refl, refl)
stays_at p (Preparing m) w = (refl, refl)
stays_at p _ w = absurd w

-- the machine in the midst of a run
abbrev pub midway : Private → (n : ℕ) → Phase → State → Private
midway p n phase counts = record p { phase = phase; counts = counts; turns = p.turns + n }

-- a run begins
pub run_begins : (stands : ℕ → Private → Turn → Type 0) (p : Private) (due : Option Op) (phase : Phase) (counts : State) (next : Next) → IsMachine p → p.phase ≡ phase → p.counts ≡ counts → stands 0 p Moved → Runs stands p 0 due phase counts next
run_begins stands p due phase counts next k at holds s =
    let e : p.turns ≡ p.turns + 0 = omega arith in
    record {
      now = p;
      turn = Moved;
      turned = Turned.none;
      machine = k;
      sizes = same_sizes p;
      stood = s;
      busy = λ b. ((λ i. record p { phase = at i; counts = holds i; turns = e i }), refl);
      led = λ some. absurd (omega (arith, some));
    }

-- one turn more, of a machine that is at work: it came to `next`
module _ (p : Private) (n : ℕ) (phase : Phase) (counts : State) (word : ℕ) (q : Private) (at : q ≡ midway p n phase counts) (k : IsMachine q) (sizes : KeepsSizes p q) (g : IsGiven q word) (works : IsWork phase) (next : Next) (is : worked (with_counts (parts_of p) counts) word phase ≡ next) where
  abbrev phase_is : q.phase ≡ phase
  phase_is = ap (λ (x : Private). x.phase) at

  given : IsGivenAt q word phase
  unfolding IsGiven
  given = subst (IsGivenAt q word) phase_is g

  here : worked (parts_of q) word phase ≡ next
  here = ap (λ (x : Private). worked (parts_of x) word phase) at ∙ is

  turns_are : p.turns + n ≡ p.turns + (n + 1 - 1)
  turns_are = omega arith

  came_is : came q next ≡ came (before_last p (n + 1)) next
  came_is = ap (λ (x : Private). came x next) at ∙ (λ i. came (record p { turns = turns_are i }) next)

  landed_is : landed q next ≡ landed (before_last p (n + 1)) next
  landed_is = ap (λ (x : Private). landed x next) at ∙ (λ i. landed (record p { turns = turns_are i }) next)

  step_took : took_of q word ≡ came (before_last p (n + 1)) next
  unfolding took_of
  step_took = ap (took_at q word) phase_is ∙ sym (work_took q word phase works).0 ∙ ap (came q) here ∙ came_is

  step_turn : turn_of q word ≡ came_turn p.epoch next.phase
  unfolding turn_of
  step_turn = ap (turn_at q word) phase_is ∙ sym (work_took q word phase works).1 ∙ ap (λ (x : Next). came_turn q.epoch x.phase) here ∙ ap (λ (x : Private). came_turn x.epoch next.phase) at

  machine_lands : IsMachine (landed q next)
  machine_lands = turned_keeps q q word phase next k refl phase_is given works (sym here)

  sizes_land : KeepsSizes q (landed q next)
  sizes_land = landed_sizes q (landed q next) next (subst (Lands q) here (work_lands q word phase k phase_is given works)) (same_sizes (landed q next))

  step_led : Led p (n + 1) next (took_of q word) (turn_of q word)
  step_led = record {
    is = step_took;
    answers = step_turn;
    machine = subst IsMachine landed_is machine_lands;
    sizes = subst (KeepsSizes p) landed_is (sizes_on sizes sizes_land);
    fits = omega (arith, turns_fit q k, ap (λ (x : Private). x.turns) at);
  }

  came_took : came q next ≡ took_of q word
  came_took = came_is ∙ sym step_took

  step_machine : IsMachine (took_of q word)
  step_machine = subst IsMachine came_took (came_keeps q next machine_lands)

  step_sizes : KeepsSizes p (took_of q word)
  step_sizes = subst (KeepsSizes p) came_took (sizes_on (sizes_on sizes sizes_land) (ended_sizes (landed q next) next.phase machine_lands))

  -- while something is due it goes on in this phase
  step_busy : (later : Phase) (s : State) → IsWork later → next ≡ next_in later (with_counts (parts_of p) s) → (took_of q word ≡ midway p (n + 1) later s) × (turn_of q word ≡ Moved)
  step_busy later s w e =
      let f : p.turns + (n + 1 - 1) + 1 ≡ p.turns + (n + 1) = omega arith in (
        step_took ∙ ap (came (before_last p (n + 1))) e ∙ (stays_at (moved (with_parts (before_last p (n + 1)) (with_counts (parts_of p) s)) later) later w).0 ∙ (λ i. record p { phase = later; counts = s; turns = f i }),
        step_turn ∙ ap (λ (x : Next). came_turn p.epoch x.phase) e ∙ (stays_at p later w).1,
      )

-- a run goes on
pub run_more : (stands after : ℕ → Private → Turn → Type 0) (p : Private) (n : ℕ) (op : Op) (due later : Option Op) (phase phase' : Phase) (counts counts' : State) (next next' : Next) (word : ℕ) (r : Runs stands p n due phase counts next) → IsSome due → IsWork phase → IsWork phase'
    → IsGiven r.now word → worked (with_counts (parts_of p) counts) word phase ≡ next' → (IsSome later → next' ≡ next_in phase' (with_counts (parts_of p) counts')) → after (n + 1) (took_of r.now word) (turn_of r.now word) → Runs after p (n + 1) later phase' counts' next'
run_more stands after p n op due later phase phase' counts counts' next next' word r b w w' g is more s =
    let at = (r.busy b).0 in
    record {
      now = took_of r.now word;
      turn = turn_of r.now word;
      turned = Turned.more n r.now word (subst (λ (t : Turn). Turned p n r.now t) (r.busy b).1 r.turned) g;
      machine = step_machine p n phase counts word r.now at r.machine r.sizes g w next' is;
      sizes = step_sizes p n phase counts word r.now at r.machine r.sizes g w next' is;
      stood = s;
      busy = λ c. step_busy p n phase counts word r.now at r.machine r.sizes g w next' is phase' counts' w' (more c);
      led = λ some. step_led p n phase counts word r.now at r.machine r.sizes g w next' is;
    }

-- a run as its calls tell it: its parts and its phase are those to which its last turn came
module _ (p : Private) (n : ℕ) (next : Next) (q : Private) (turn : Turn) (l : Led p n next q turn) (some : 0 < n) (found : Next) (is : found ≡ next) (more : ℕ) (all : more ≡ n) where
  -- the machine behind the run, before a collection that it may complete
  abbrev behind_run : Private
  behind_run = record (with_parts p found.parts) { phase = found.phase; turns = p.turns + more }

  behind_is : behind_run ≡ landed (before_last p n) next
  behind_is =
      let e : p.turns + more ≡ p.turns + (n - 1) + 1 = omega (arith, some, all) in
      (λ i. record (with_parts p found.parts) { phase = found.phase; turns = e i }) ∙ ap (landed (before_last p n)) is

  pub run_lands : IsMachine behind_run
  run_lands = subst IsMachine (sym behind_is) l.machine

  pub run_told : (now : Private) (answer : Turn) → now ≡ ended_if found.phase behind_run → answer ≡ came_turn p.epoch found.phase → KeepsSizes behind_run now → (q ≡ now) × (turn ≡ answer) × KeepsSizes p now
  run_told now answer ends answers sizes = (
    l.is ∙ sym (ends ∙ (λ i. ended_if (is i).phase (behind_is i))),
    l.answers ∙ sym (answers ∙ ap (λ (x : Next). came_turn p.epoch x.phase) is),
    sizes_on l.sizes (subst (λ (x : Private). KeepsSizes x now) behind_is sizes),
  )
