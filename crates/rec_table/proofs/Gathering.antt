-- The calls of the collector's turn.
use Rattle.std.proofs.Common.{◌≡◌, ℕ, ◌+◌, ◌-◌, ◌^◌, ◌<◌, arith, Bool, true, false, cond, if◌then◌else◌, eq-eqb, ne_eqb, [], ◌∷◌, length, slice_set, length-set, Option, Some, None, refl, sym, ap, ◌∙◌, subst}
use Rattle.std.specs.Option.{IfSome}
use Rattle.atomic_table.specs.Table.{Me, Step, rest}
use Rattle.rec_word.specs.Mailbox.{crossing_word}
use Rattle.rec_word.specs.declared.mailbox.Mailbox.TheVariants.{Retired}
use Rattle.rec_word.specs.declared.op.Op.TheVariants as ops
use Rattle.rec_release.specs.CycleFree.{op_at as freeing_op_at, next_of as freeing_next}
use Rattle.rec_release.specs.Release.{op_at as release_op_at, next_of as release_next}
use Rattle.rec_release.specs.Sweep.{next_of as sweep_next}
use Rattle.rec_release.specs.declared.at.At.{At}
use Rattle.rec_word.specs.declared.member.Member.{Member}
use Rattle.rec_sigma.specs.Prepare.{op_at as prep_op_at, next_of as prep_next}
use Rattle.rec_sigma.specs.declared.at.At as loads
use Rattle.rec_collector.specs.Followed.{Next, worked}
use Rattle.rec_collector.specs.Given.{IsGiven, IsGivenAt, IsSized, IsSwapping, IsWork}
use Rattle.rec_world.specs.Mailbox.{held}
use Rattle.rec_collector.specs.Kept.{IsMachine, KeepsSizes}
use Rattle.rec_collector.specs.Next.{next_of, next_at, is_spent}
use Rattle.rec_collector.specs.Present.{next_present}
use Rattle.rec_collector.specs.Private.{Private, parts_of, spare}
use Rattle.rec_collector.specs.Step.{IsBetween, NamesWord}
use Rattle.rec_collector.specs.Took.{batch_next, behind, came, ended_if, gathering_on, left_of, moved, noted, requested, took_of, took_at, step_of, swapped_of, swapped_at, swept_phase}
use Rattle.rec_collector.specs.declared.phase.Phase.{Phase}
use Rattle.rec_collector.specs.declared.phase.Phase.TheVariants.{Idle, Looking, Swapping, Returning, Releasing, Freeing, Trying, Preparing, Opening, Sweeping, Closing}
use Rattle.rec_collector.proofs.Always.{names_word}
use Rattle.rec_collector.proofs.Landing.{batch_phase, worked_phase}
use Rattle.atomic_table.specs.Seated.{TableId}
use Rattle.rec_table.proofs.Common.{written, Op, Contents, with_parts, Core, cells_of, box, IsWorld, world_kept, collector_within, CollectorView, collector_view, collector_now, looked_at, left_by, gathered, gathered_all, looked, index_of, Operates, IsReturnOp, TurnedBy, LookedBy, Looks, GlancedBy, ReturnedBy, records, collecting_of, collecting_more, boxes_at, boxes_out, NotLooking, Beat, Saw, Took, CollectorSeat, View, Collects}
use Rattle.rec_table.proofs.Collects.{gathered_both, leaves_spare}
use Rattle.rec_world.proofs.Row.{row_within}
use Rattle.rec_core.proofs.Trying.{loads_child}
use Rattle.rec_core.proofs.Turning.{some_op}
use Rattle.rec_table.specs.Operations.{Kind as OperationKind}
use Rattle.rec_table.proofs.Steps.{IsPlainOp}
use Rattle.rec_table.proofs.Turns.{turns, looks, glances, returns_box, tried}
use Rattle.rec_collector.proofs.Plain.{plain_given, plain_took}

-- an operation of a turn that moves no mailbox
abbrev pub IsLoneOp : Op → Type 0
IsLoneOp (ops.LoadChild place) = Unit {0}
IsLoneOp (ops.ClearField place) = Unit {0}
IsLoneOp (ops.FreeHeader slot) = Unit {0}
IsLoneOp (ops.StoreEpoch epoch) = Unit {0}
IsLoneOp ops.AddFreed = Unit {0}
IsLoneOp _ = ⊥

lone_plain : (op : Op) → IsLoneOp op → IsPlainOp op
lone_plain (ops.LoadChild place) is = tt
lone_plain (ops.ClearField place) is = tt
lone_plain (ops.FreeHeader slot) is = tt
lone_plain (ops.StoreEpoch epoch) is = tt
lone_plain ops.AddFreed is = tt
lone_plain _ is = absurd is

abbrev IsLone : Phase → Type 0
IsLone (Looking t) = ⊥
IsLone (Swapping t) = ⊥
IsLone (Returning t) = ⊥
IsLone _ = Unit {0}

abbrev IsReturning : Phase → Type 0
IsReturning (Returning t) = Unit {0}
IsReturning _ = ⊥

-- what a turn does with a mailbox: its phase and its operation agree
pub data Kind (p : Private) (op : Op) : Type 0 where
  at_box : (t : ℕ) → p.phase ≡ Looking t → op ≡ ops.LookBox t p.epoch → Kind p op
  gives_box : (t : ℕ) → p.phase ≡ Returning t → op ≡ ops.ReturnBox t p.epoch → Kind p op
  lone : IsLone p.phase → IsLoneOp op → Kind p op

is_lone : (o op : Op) → IsLoneOp o → ◌≡◌ {A = Option Op} (Some o) (Some op) → IsLoneOp op
is_lone o op is e = subst IsLoneOp (some_op o op e) is

not_none : (op : Op) → ◌≡◌ {A = Option Op} None (Some op) → ⊥
not_none op e = let not_so : ◌≡◌ {A = Option Op} (Some op) None = sym e in cc

kind_at : (p : Private) (op : Op) (phase : Phase) → p.phase ≡ phase → IsBetween phase → ◌≡◌ {A = Option Op} (next_at p phase) (Some op) → Kind p op
unfolding next_at release_next freeing_next prep_next sweep_next
kind_at p op Idle is between named = Kind.lone (subst IsLone (sym is) tt) (stored (is_spent p) named)
  where
    stored : (spent : Bool) → ◌≡◌ {A = Option Op} (if spent then None else Some (ops.StoreEpoch (p.epoch + 1))) (Some op) → IsLoneOp op
    stored true e = absurd (not_none op e)
    stored false e = is_lone (ops.StoreEpoch (p.epoch + 1)) op tt e
kind_at p op (Looking t) is between named = Kind.at_box t is (sym (some_op (ops.LookBox t p.epoch) op named))
kind_at p op (Swapping t) is between named = absurd between
kind_at p op (Returning t) is between named = Kind.gives_box t is (sym (some_op (ops.ReturnBox t p.epoch) op named))
kind_at p op (Releasing m) is between named = Kind.lone (subst IsLone (sym is) tt) (go m.at named)
  where
    go : (x : Option At) → ◌≡◌ {A = Option Op} (release_op_at m.fields x) (Some op) → IsLoneOp op
    go None e = absurd (not_none op e)
    go (Some a) e = is_lone _ op tt e
kind_at p op (Freeing m) is between named = Kind.lone (subst IsLone (sym is) tt) (go m.at named)
  where
    go : (x : Option Member) → ◌≡◌ {A = Option Op} (freeing_op_at m.fields x) (Some op) → IsLoneOp op
    go None e = absurd (not_none op e)
    go (Some a) e = is_lone _ op tt e
kind_at p op (Trying m) is between named = Kind.lone (subst IsLone (sym is) tt) (subst IsLoneOp (sym (loads_child m op (sym named)).1) tt)
kind_at p op (Preparing m) is between named = Kind.lone (subst IsLone (sym is) tt) (go m.at named)
  where
    go : (x : Option loads.At) → ◌≡◌ {A = Option Op} (prep_op_at m.fields x) (Some op) → IsLoneOp op
    go None e = absurd (not_none op e)
    go (Some a) e = is_lone _ op tt e
kind_at p op Opening is between named = Kind.lone (subst IsLone (sym is) tt) (is_lone ops.AddFreed op tt named)
kind_at p op (Sweeping due n) is between named = Kind.lone (subst IsLone (sym is) tt) (go due named)
  where
    go : (x : Option ℕ) → ◌≡◌ {A = Option Op} (sweep_next x) (Some op) → IsLoneOp op
    go None e = absurd (not_none op e)
    go (Some x) e = is_lone (ops.FreeHeader x) op tt e
kind_at p op (Closing n) is between named = Kind.lone (subst IsLone (sym is) tt) (is_lone ops.AddFreed op tt named)

pub kind : (p : Private) (op : Op) → IsBetween p.phase → ◌≡◌ {A = Option Op} (next_of p) (Some op) → Kind p op
unfolding next_of
kind p op between named = kind_at p op p.phase refl between named

-- no mailbox is held in this phase
abbrev HoldsNone : Phase → Type 0
HoldsNone (Swapping t) = ⊥
HoldsNone (Returning t) = ⊥
HoldsNone _ = Unit {0}

came_none : (p : Private) (n : Next) → HoldsNone n.phase → HoldsNone (came p n).phase
came_none p n none = go n.phase none
  where
    go : (phase : Phase) → HoldsNone phase → HoldsNone (ended_if phase (moved (with_parts p n.parts) phase)).phase
    go (Closing m) none = tt
    go _ none = none

works_none : (p : Private) (word : ℕ) (phase : Phase) → IsWork phase → HoldsNone (came p (worked (parts_of p) word phase)).phase
works_none p word phase at_work = came_none p (worked (parts_of p) word phase) (worked_phase HoldsNone (λ m. tt) tt tt (λ m. tt) (λ m. tt) (λ m. tt) (parts_of p) word phase at_work)

-- the collection goes on with another mailbox, or applies the batch
behind_none : (p : Private) (t : ℕ) → HoldsNone (behind p t).phase
behind_none p t = go (next_present p.left t)
  where
    go : (next : Option ℕ) → HoldsNone (gathering_on p next).phase
    go None = came_none p (batch_next p) (batch_phase HoldsNone (λ m. tt) tt tt (λ m. tt) (λ m. tt) (λ m. tt) p)
    go (Some next) = tt

took_none : (p : Private) (word : ℕ) (phase : Phase) → p.phase ≡ phase → IsBetween phase → NotLooking phase → HoldsNone (took_at p word phase).phase
unfolding took_at
took_none p word Idle is between looks_none = go (is_spent p)
  where
    go : (spent : Bool) → HoldsNone (if spent then p else behind (requested p) 0).phase
    go true = subst HoldsNone (sym is) tt
    go false = behind_none (requested p) 0
took_none p word (Looking t) is between looks_none = absurd looks_none
took_none p word (Swapping t) is between looks_none = absurd between
took_none p word (Returning t) is between looks_none = behind_none (noted p t) t
took_none p word Opening is between looks_none = tt
took_none p word (Sweeping due n) is between looks_none = go _
  where
    go : (x : Option ℕ) → HoldsNone (swept_phase (n + 1) x)
    go None = tt
    go (Some x) = tt
took_none p word (Closing n) is between looks_none = tt
took_none p word phase is between looks_none = works_none p word phase tt

holds_none : (p : Private) (word : ℕ) → IsBetween p.phase → NotLooking p.phase → HoldsNone (took_of p word).phase
unfolding took_of
holds_none p word between looks_none = took_none p word p.phase refl between looks_none

none_out : (p : Private) (phase : Phase) → HoldsNone phase → boxes_at p phase ≡ []
none_out p (Returning t) is = absurd is
none_out p _ is = refl

none_between : (phase : Phase) → HoldsNone phase → IsBetween phase
none_between (Swapping t) is = is
none_between _ is = tt

-- what the collector is after a turn that looked at no mailbox
pub lone_out : (p q : Private) (word : ℕ) → IsBetween p.phase → NotLooking p.phase → q ≡ took_of p word → (boxes_out q ≡ []) × IsBetween q.phase
lone_out p q word between looks_none took =
    let none = subst (λ (x : Private). HoldsNone x.phase) (sym took) (holds_none p word between looks_none) in
    (none_out q q.phase none, none_between q.phase none)

pub lone_boxes : (p : Private) (phase : Phase) → IsLone phase → boxes_at p phase ≡ []
lone_boxes p (Returning t) is = absurd is
lone_boxes p _ is = refl

sees : (w : Core) (n : ℕ) (phase : Phase) → IsLone phase → looked w n phase ≡ Saw n
sees w n (Looking t) is = absurd is
sees w n _ is = refl

stays : (c : Private) (n : ℕ) (b : Contents) (phase : Phase) → IsLone phase → left_by c n b phase ≡ b
stays c n b (Looking t) is = absurd is
stays c n b _ is = refl

-- a lone operation comes in a lone phase
lone_phase : (p : Private) (op : Op) → IsBetween p.phase → ◌≡◌ {A = Option Op} (next_of p) (Some op) → IsLoneOp op → IsLone p.phase
lone_phase p op between named is = by (kind p op between named)
  where
    by : Kind p op → IsLone p.phase
    by (Kind.at_box t phase o) = absurd (subst IsLoneOp o is)
    by (Kind.gives_box t phase o) = absurd (subst IsLoneOp o is)
    by (Kind.lone phase o) = phase

pub allows_lone : (key : Core) (slots id i : ℕ) (me : Me (Option Contents) View) (op : Op) (p : Private) (f : ℕ → ℕ) (st : Step (Option Contents))
    → me ≡ (Collects (collecting_of me.0), boxes_out p) → p ≡ gathered_all key.collector (collecting_of me.0).log → IsBetween p.phase → ◌≡◌ {A = Option Op} (next_of p) (Some op) → IsLoneOp op
    → i ≡ index_of (length key.words) (length key.headers) op → ((n : ℕ) → f n ≡ written op n) → Operates key OperationKind.Turns slots id me i f (TurnedBy p st me)
allows_lone key slots id i me op p f st is is_p between named alone at does =
    let c : CollectorSeat = collecting_of me.0 in
    let phase : IsLone p.phase = lone_phase p op between named alone in
    let all = turns key slots id c (boxes_out p) p op f st is_p named (lone_plain op alone)
    (λ w n e. sees w n w.collector.phase (subst (λ (x : Private). IsLone x.phase) (sym e) phase))
    (λ w n e. stays w.collector n (box w (looked_at w.collector.phase)) w.collector.phase (subst (λ (x : Private). IsLone x.phase) (sym e) phase))
    does in
    subst (λ (y : Me (Option Contents) View × ℕ). Operates key OperationKind.Turns slots id y.0 y.1 f (TurnedBy p st y.0)) (λ k. (sym is k, sym at k)) all

pub made_lone : (p : Private) (op : Op) (word : ℕ) (me me' : Me (Option Contents) View) → me ≡ (Collects (collecting_of me.0), boxes_out p) → IsBetween p.phase → ◌≡◌ {A = Option Op} (next_of p) (Some op) → IsLoneOp op
    → me' ≡ (records me.0 (Saw word), me.1) → me' ≡ (Collects (collecting_more (collecting_of me.0) (Saw word)), [])
made_lone p op word me me' is between named alone now =
    let c : CollectorSeat = collecting_of me.0 in
    now ∙ (λ k. (records (is k).0 (Saw word), (is k).1)) ∙ (λ k. (Collects (collecting_more c (Saw word)), lone_boxes p p.phase (lone_phase p op between named alone) k))

not_return : (o : Op) → IsLoneOp o → IsReturnOp o → ⊥
not_return (ops.LoadChild place) a b = b
not_return (ops.ClearField place) a b = b
not_return (ops.FreeHeader slot) a b = b
not_return (ops.StoreEpoch epoch) a b = b
not_return ops.AddFreed a b = b
not_return _ a b = a

pub returns_at : (p : Private) (op : Op) → IsBetween p.phase → ◌≡◌ {A = Option Op} (next_of p) (Some op) → IsReturnOp op → (t : ℕ) × (p.phase ≡ Returning t) × (op ≡ ops.ReturnBox t p.epoch)
returns_at p op between named is = by (kind p op between named)
  where
    by : Kind p op → (t : ℕ) × (p.phase ≡ Returning t) × (op ≡ ops.ReturnBox t p.epoch)
    by (Kind.at_box t phase o) = absurd (subst IsReturnOp o is)
    by (Kind.gives_box t phase o) = (t, phase, o)
    by (Kind.lone phase o) = absurd (not_return op o is)

pub allows_return : (key : Core) (slots id i : ℕ) (me : Me (Option Contents) View) (op : Op) (p : Private) (f : ℕ → ℕ) (st : Step (Option Contents))
    → me ≡ (Collects (collecting_of me.0), boxes_out p) → p ≡ gathered_all key.collector (collecting_of me.0).log → IsBetween p.phase → ◌≡◌ {A = Option Op} (next_of p) (Some op) → IsReturnOp op
    → i ≡ index_of (length key.words) (length key.headers) op → ((n : ℕ) → f n ≡ written op n) → Operates key OperationKind.Turns slots id me i f (ReturnedBy p st me)
allows_return key slots id i me op p f st is is_p between named ret at does =
    let c : CollectorSeat = collecting_of me.0 in
    let (t, phase, o) = returns_at p op between named ret in
    let all = returns_box key slots id t c p f st is_p phase (λ n. does n ∙ ap (λ (x : Op). written x n) o) in
    subst (λ (y : Me (Option Contents) View × ℕ). Operates key OperationKind.Turns slots id y.0 y.1 f (ReturnedBy p st y.0))
    (λ k. (sym (is ∙ (λ j. (Collects c, boxes_at p (phase j)))) k, sym (at ∙ ap (index_of (length key.words) (length key.headers)) o) k)) all

pub made_return : (p : Private) (op : Op) (word : ℕ) (me me' : Me (Option Contents) View) → me ≡ (Collects (collecting_of me.0), boxes_out p) → IsBetween p.phase → ◌≡◌ {A = Option Op} (next_of p) (Some op) → IsReturnOp op
    → me' ≡ (records me.0 (Saw word), rest me.1) → me' ≡ (Collects (collecting_more (collecting_of me.0) (Saw word)), [])
made_return p op word me me' is between named ret now =
    let c : CollectorSeat = collecting_of me.0 in
    now ∙ (λ k. (records (is k).0 (Saw word), rest (is k).1)) ∙ (λ k. (Collects (collecting_more c (Saw word)), rest (boxes_at p ((returns_at p op between named ret).1 k))))

-- A look at a mailbox.
pub given_looking : (p : Private) (t word : ℕ) → p.phase ≡ Looking t → word < 2 ^ 32 → IsGiven p word
unfolding IsGiven IsGivenAt
given_looking p t word is plain = subst (λ (x : Phase). IsGivenAt p word x) (sym is) (plain_given p word t plain)

module _ (key : Core) (slots id i : ℕ) (me : Me (Option Contents) View) (t epoch number : ℕ) (p : Private) (st : Step (Option Contents)) (is : me ≡ (Collects (collecting_of me.0), [])) (n_is : number ≡ t) (is_p : p ≡ gathered_all key.collector (collecting_of me.0).log)
    (phase : p.phase ≡ Looking t) (e_is : p.epoch ≡ epoch) (at : i ≡ index_of (length key.words) (length key.headers) (ops.LookBox t epoch)) where
  its : i ≡ index_of (length key.words) (length key.headers) (ops.LookBox t p.epoch)
  its = at ∙ ap (λ (e : ℕ). index_of (length key.words) (length key.headers) (ops.LookBox t e)) (sym e_is)

  pub allows_look : (f : ℕ → ℕ) → ((n : ℕ) → f n ≡ tried epoch n) → Operates key (OperationKind.Tries (crossing_word p.epoch Retired)) slots id me i f (LookedBy p number st me)
  allows_look f does =
      let all = looks key slots id t (collecting_of me.0) p f st is_p phase (λ n. does n ∙ ap (λ (e : ℕ). tried e n) (sym e_is)) in
      subst (λ (y : Me (Option Contents) View × ℕ × ℕ). Operates key (OperationKind.Tries (crossing_word p.epoch Retired)) slots id y.0 y.1 f (LookedBy p y.2 st y.0)) (λ k. (sym is k, sym its k, sym n_is k)) all

  pub allows_glance : Operates key OperationKind.Glances slots id me i (λ n. n) (GlancedBy p number st me)
  allows_glance =
      let all = glances key slots id t (collecting_of me.0) p st is_p phase in
      subst (λ (y : Me (Option Contents) View × ℕ × ℕ). Operates key OperationKind.Glances slots id y.0 y.1 (λ n. n) (GlancedBy p y.2 st y.0)) (λ k. (sym is k, sym its k, sym n_is k)) all

abbrev Hit : (p : Private) (t word : ℕ) (c : CollectorSeat) (me : Me (Option Contents) View) → Type 0
Hit p t word c me = (b : Contents) × (me ≡ (Collects (collecting_more c (Took word b)), (t - 1, Some b) ∷ [])) × IsSized p.registers p.capacity b

pub look_hits : (p actor : Private) (t number epoch word : ℕ) (me me' : Me (Option Contents) View) → me ≡ (Collects (collecting_of me.0), []) → actor ≡ p → number ≡ t → p.epoch ≡ epoch → word ≡ crossing_word epoch Retired
    → Looks actor number me word me' → Hit p t word (collecting_of me.0) me'
look_hits p actor t number epoch word me me' is a_is n_is e_is hit by =
    let (b, now, sized) = by.0 (hit ∙ ap (λ (e : ℕ). crossing_word e Retired) (sym e_is ∙ ap (λ (x : Private). x.epoch) (sym a_is))) in
    (b, now ∙ (λ k. (records (is k).0 (Took word b), (n_is k - 1, Some b) ∷ (is k).1)), subst (λ (x : Private). IsSized x.registers x.capacity b) a_is sized)

pub look_misses : (p actor : Private) (t number epoch word : ℕ) (me me' : Me (Option Contents) View) → me ≡ (Collects (collecting_of me.0), []) → actor ≡ p → p.epoch ≡ epoch → (word ≡ crossing_word epoch Retired → ⊥)
    → Looks actor number me word me' → me' ≡ (Collects (collecting_more (collecting_of me.0) (Saw word)), [])
look_misses p actor t number epoch word me me' is a_is e_is miss by =
    by.1 (λ e. miss (e ∙ ap (λ (x : ℕ). crossing_word x Retired) (ap (λ (x : Private). x.epoch) a_is ∙ e_is))) ∙ (λ k. (records (is k).0 (Saw word), (is k).1))

took_hit : (p : Private) (t word : ℕ) → word < 2 ^ 32 → p.phase ≡ Looking t → word ≡ crossing_word p.epoch Retired → took_of p word ≡ moved p (Swapping t)
unfolding took_of
took_hit p t word plain is hit = ap (took_at p word) is ∙ plain_took p word t plain ∙ ap (λ (x : Bool). cond x (moved p (Swapping t)) p) (eq-eqb word (crossing_word p.epoch Retired) hit)

took_miss : (p : Private) (t word : ℕ) → word < 2 ^ 32 → p.phase ≡ Looking t → (word ≡ crossing_word p.epoch Retired → ⊥) → took_of p word ≡ p
unfolding took_of
took_miss p t word plain is miss = ap (took_at p word) is ∙ plain_took p word t plain ∙ ap (λ (x : Bool). cond x (moved p (Swapping t)) p) (ne_eqb word (crossing_word p.epoch Retired) miss)

-- a mailbox that is home with what was retired is held, and waits to be swapped
pub hit_swaps : (p q : Private) (t word : ℕ) → word < 2 ^ 32 → p.phase ≡ Looking t → word ≡ crossing_word p.epoch Retired → q ≡ took_of p word → IsSwapping q.phase
hit_swaps p q t word plain is hits took = subst (λ (r : Private). IsSwapping r.phase) (sym (took ∙ took_hit p t word plain is hits)) tt

swapped_out : (q : Private) (b : Contents) (t : ℕ) → q.phase ≡ Swapping t → swapped_of q b ≡ record q { phase = Returning t; newer = slice_set q.newer (t - 1) b }
unfolding swapped_of swapped_at
swapped_out q b t is = ap (swapped_at q b) is

pub hit_sized : (p q : Private) (b : Contents) (m : Option Contents) → KeepsSizes p q → m ≡ Some b → IsSized p.registers p.capacity b → IsSized q.registers q.capacity (held m)
hit_sized p q b m same is sized = subst (λ (y : ℕ × ℕ × Contents). IsSized y.0 y.1 y.2) (λ k. (sym same.registers k, sym same.capacity k, held (sym is k))) sized

pub hit_turn : (p q r : Private) (t word : ℕ) (b : Contents) (m m' : Option Contents) → word < 2 ^ 32 → p.phase ≡ Looking t → word ≡ crossing_word p.epoch Retired → q ≡ took_of p word → m ≡ Some b → r ≡ swapped_of q (held m) → m' ≡ Some (left_of q (held m))
    → (r ≡ step_of p word b) × ((t - 1, m') ∷ [] ≡ boxes_out r) × KeepsSizes p r × IsBetween r.phase
unfolding step_of
hit_turn p q r t word b m m' plain is hit took is_m swapped left =
    let q_is : q ≡ moved p (Swapping t) = took ∙ took_hit p t word plain is hit in
    let at_swap : q.phase ≡ Swapping t = ap (λ (x : Private). x.phase) q_is in
    let r_is : r ≡ record p { phase = Returning t; turns = p.turns + 1; newer = slice_set p.newer (t - 1) (held m) } = swapped ∙ swapped_out q (held m) t at_swap ∙ (λ k. record (q_is k) { phase = Returning t; newer = slice_set (q_is k).newer (t - 1) (held m) }) in
    let m_is : m' ≡ Some (spare r) = left ∙ ap (λ (x : Contents). Some x) (leaves_spare q (held m) t at_swap) ∙ (λ k. Some (spare (q_is k))) ∙ (λ k. Some (spare (sym r_is k))) in (
      swapped ∙ (λ k. swapped_of (took k) (held (is_m k))),
      (λ k. (t - 1, m_is k) ∷ []) ∙ (λ k. boxes_at r (ap (λ (x : Private). x.phase) (sym r_is) k)),
      record {
        slots = ap (λ (x : Private). length x.counts.slots) r_is;
        fields = ap (λ (x : Private). x.fields) r_is;
        registers = ap (λ (x : Private). x.registers) r_is;
        capacity = ap (λ (x : Private). x.capacity) r_is;
        policy = ap (λ (x : Private). x.policy) r_is;
        mutators = ap (λ (x : Private). length x.newer) r_is ∙ length-set p.newer (t - 1) (held m);
      },
      subst (λ (x : Private). IsBetween x.phase) (sym r_is) tt,
    )

pub miss_turn : (p q : Private) (t word : ℕ) → word < 2 ^ 32 → p.phase ≡ Looking t → (word ≡ crossing_word p.epoch Retired → ⊥) → q ≡ took_of p word → (boxes_out q ≡ []) × IsBetween q.phase
miss_turn p q t word plain is miss took =
    let at_look : q.phase ≡ Looking t = ap (λ (x : Private). x.phase) (took ∙ took_miss p t word plain is miss) ∙ is in
    (ap (boxes_at q) at_look, subst IsBetween (sym at_look) tt)

pub no_else_turn : (p : Private) (op : Op) → IsBetween p.phase → NotLooking p.phase → ◌≡◌ {A = Option Op} (next_of p) (Some op) → ((x : ℕ) → op ≡ ops.LoadChild x → ⊥) → ((x : ℕ) → op ≡ ops.ClearField x → ⊥) → ((x : ℕ) → op ≡ ops.FreeHeader x → ⊥)
    → ((x : ℕ) → op ≡ ops.StoreEpoch x → ⊥) → (op ≡ ops.AddFreed → ⊥) → ((x y : ℕ) → op ≡ ops.ReturnBox x y → ⊥) → ⊥
no_else_turn p op between looks_none named load clear free store add give = by (kind p op between named)
  where
    alone : (o : Op) → op ≡ o → IsLoneOp o → ⊥
    alone (ops.LoadChild place) e a = load place e
    alone (ops.ClearField place) e a = clear place e
    alone (ops.FreeHeader slot) e a = free slot e
    alone (ops.StoreEpoch epoch) e a = store epoch e
    alone ops.AddFreed e a = add e
    alone _ e a = a

    by : Kind p op → ⊥
    by (Kind.at_box t phase o) = subst NotLooking phase looks_none
    by (Kind.gives_box t phase o) = give t p.epoch o
    by (Kind.lone phase o) = alone op refl o

-- The word of a turn's operation is there.
pub turn_names : (p : Private) (op : Op) → IsMachine p → ◌≡◌ {A = Option Op} (next_of p) (Some op) → NamesWord (length p.counts.slots) p.fields (length p.newer) op
turn_names p op machine named = subst (λ (x : Option Op). IfSome x (NamesWord (length p.counts.slots) p.fields (length p.newer))) named (names_word p machine)

pub turn_there : (key : Core) (op : Op) (opened p : Private) (words : ℕ) → IsWorld key → opened ≡ key.collector → KeepsSizes opened p → IsMachine p → ◌≡◌ {A = Option Op} (next_of p) (Some op)
    → words ≡ length key.words + length key.headers + 2 + length key.crossing → index_of (length key.words) (length key.headers) op < words
turn_there key op opened p words world is keeps machine named wide =
    let names : NamesWord (length key.collector.counts.slots) key.collector.fields (length key.collector.newer) op =
    subst (λ (y : ℕ × ℕ × ℕ). NamesWord y.0 y.1 y.2 op) (λ k. ((keeps.slots ∙ ap (λ (x : Private). length x.counts.slots) is) k, (keeps.fields ∙ ap (λ (x : Private). x.fields) is) k, (keeps.mutators ∙ ap (λ (x : Private). length x.newer) is) k)) (turn_names p op machine named) in
    let low = row_within (cells_of key) op (collector_within key op (world_kept key world) names) in
    omega (arith, low, wide)

abbrev IsLookOp : Op → Type 0
IsLookOp (ops.LookBox t e) = Unit {0}
IsLookOp _ = ⊥

not_look : (o : Op) → IsLoneOp o → IsLookOp o → ⊥
not_look (ops.LoadChild place) a b = b
not_look (ops.ClearField place) a b = b
not_look (ops.FreeHeader slot) a b = b
not_look (ops.StoreEpoch epoch) a b = b
not_look ops.AddFreed a b = b
not_look _ a b = a

pub looking_of : (p : Private) (op : Op) (t e : ℕ) → IsBetween p.phase → ◌≡◌ {A = Option Op} (next_of p) (Some op) → op ≡ ops.LookBox t e → (p.phase ≡ Looking t) × (p.epoch ≡ e)
looking_of p op t e between named is = by (kind p op between named)
  where
    by : Kind p op → (p.phase ≡ Looking t) × (p.epoch ≡ e)
    by (Kind.at_box u phase o) = let same : ops.LookBox u p.epoch ≡ ops.LookBox t e = sym o ∙ is in (phase ∙ ap (λ k. Looking k) (cc), cc)
    by (Kind.gives_box u phase o) = absurd (subst IsLookOp (sym is ∙ o) tt)
    by (Kind.lone phase o) = absurd (not_look op o (subst IsLookOp (sym is) tt))

pub not_looking : (p : Private) (op : Op) → IsBetween p.phase → ◌≡◌ {A = Option Op} (next_of p) (Some op) → ((t e : ℕ) → op ≡ ops.LookBox t e → ⊥) → NotLooking p.phase
not_looking p op between named no_look = by p.phase refl
  where
    by : (phase : Phase) → p.phase ≡ phase → NotLooking p.phase
    by (Looking t) is = absurd (looks_then (kind p op between named))
      where
        looks_then : Kind p op → ⊥
        looks_then (Kind.at_box u phase o) = no_look u p.epoch o
        looks_then (Kind.gives_box u phase o) = subst (λ (x : Phase). IsReturning x → ⊥) (sym is) (λ r. r) (subst IsReturning (sym phase) tt)
        looks_then (Kind.lone phase o) = subst IsLone is phase
    by _ is = subst NotLooking (sym is) tt

pub looking_boxes : (p : Private) (t : ℕ) → p.phase ≡ Looking t → boxes_out p ≡ []
looking_boxes p t is = ap (boxes_at p) is

-- the seat and the list after a turn
pub turn_me : (c : CollectorSeat) (b : Beat) (q : Private) (me' : Me (Option Contents) View) → me' ≡ (Collects (collecting_more c b), boxes_out q) → me' ≡ (Collects (collecting_of me'.0), boxes_out q)
turn_me c b q me' now = now ∙ (λ k. (Collects (collecting_of (sym now k).0), boxes_out q))

pub turn_log : (o p q : Private) (c : CollectorSeat) (b : Beat) (me' : Me (Option Contents) View) → p ≡ gathered_all o c.log → q ≡ gathered p b → me' ≡ (Collects (collecting_more c b), boxes_out q) → q ≡ gathered_all o (collecting_of me'.0).log
turn_log o p q c b me' at learns now =
    learns ∙ ap (λ x. gathered x b) at ∙ sym (gathered_both o c.log (b ∷ [])) ∙ sym (λ k. gathered_all o (collecting_of (now k).0).log)

pub turn_end : (z z' : TableId) (o p q : Private) (c : CollectorSeat) (b : Beat) (me' : Me (Option Contents) View) (g : CollectorView) → collector_view z o c ≡ g → z' ≡ z → p ≡ gathered_all o c.log → q ≡ gathered p b → me' ≡ (Collects (collecting_more c b), boxes_out q)
    → (collector_view z' o (collecting_of me'.0) ≡ record g { collecting = collecting_more g.collecting b }) × (gathered_all o (collecting_of me'.0).log ≡ gathered (collector_now g) b)
turn_end z z' o p q c b me' g is same at learns now = (
  (λ k. collector_view (same k) o (collecting_of (now k).0)) ∙ (λ k. record (is k) { collecting = collecting_more (is k).collecting b }),
  sym (turn_log o p q c b me' at learns now) ∙ learns ∙ ap (λ x. gathered x b) (at ∙ ap collector_now is),
)
