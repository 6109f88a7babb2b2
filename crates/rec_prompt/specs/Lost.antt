-- Which slots are lost, and to which of them no cycle leads.
use Rattle.std.specs.Prelude.{◌≡◌, ℕ, ◌<◌, Some, count_by}
use Rattle.rec_word.specs.Word.{is_slot, target_of}
use Rattle.rec_model.specs.Sight.{Sight, IsTaken, Reaches, word_at}

-- the slot holds an object, and no register reaches it
pub record IsLost (w : Sight) (slot : ℕ) : Type 0 where
  pub taken : IsTaken w slot
  pub unreached : Reaches w slot → ⊥

-- a field of the one slot leads to the other
abbrev pub Leads : Sight → (from to : ℕ) → Type 0
Leads w from to = (field : ℕ) × (field < w.fields) × (target_of (word_at w from field) ≡ Some to)

-- fields lead from the one slot to the other, in one step or more
pub data LeadsOn (w : Sight) (from : ℕ) : (to : ℕ) → Type 0 where
  step : {to : ℕ} → Leads w from to → LeadsOn w from to
  further : {middle to : ℕ} → LeadsOn w from middle → Leads w middle to → LeadsOn w from to

-- No cycle leads to the slot: no slot that leads back to itself leads to it, and so it is on no cycle itself.
abbrev pub IsBehindNoCycle : Sight → (slot : ℕ) → Type 0
IsBehindNoCycle w slot = (other : ℕ) → LeadsOn w other other → LeadsOn w other slot → ⊥

-- how many fields lead to the slot
abbrev pub fields_to : Sight → (slot : ℕ) → ℕ
fields_to w slot = count_by (λ word. is_slot slot (target_of word)) w.words
