-- Failing probes, one after the other, are one skip.
use Rattle.std.proofs.Common.{◌≡◌, ◌≢◌, ℕ, ◌+◌, ◌-◌, ◌<◌, ◌≤◌, ◌==◌, if◌then◌else◌, Bool, true, false, arith, sym, ap, ◌∙◌}
use Rattle.std.proofs.lemmas.Bool.{ne_eqb}
use Rattle.rec_word.specs.Header.{header_word}
use Rattle.rec_word.specs.declared.op.Op.TheVariants as ops
use Rattle.rec_log.specs.declared.contents.Contents.{Contents}
use Rattle.rec_mutator.specs.Next.{next_of, next_at}
use Rattle.rec_mutator.specs.Private.{Private, is_busy, is_busy_at, probe_of}
use Rattle.rec_mutator.specs.Took.{took_of, took_at, born_in, moved, skipped_to, skipped_at, swapped_of, swapped_at, left_of, left_at}
use Rattle.rec_mutator.specs.declared.phase.Phase.{Phase}
use Rattle.rec_mutator.specs.declared.phase.Phase.TheVariants.{Scanning, Scanned}

module _ (p : Private) (reg label : ℕ) (leaf : Bool) (before probed : ℕ) (scans : p.phase ≡ Scanning reg label leaf before probed) where
  -- what the scan has come to
  skipped : (count : ℕ) → skipped_to p count ≡ record p { phase = if count == p.slots then Scanned reg label leaf before else Scanning reg label leaf before count; steps = p.steps + (count - probed) }
  unfolding skipped_to skipped_at
  skipped count = ap (skipped_at p count) scans

  -- before its end
  skipped_there : (count : ℕ) → count < p.slots → skipped_to p count ≡ record p { phase = Scanning reg label leaf before count; steps = p.steps + (count - probed) }
  skipped_there count there =
      skipped count ∙ ap (λ (b : Bool). record p { phase = if b then Scanned reg label leaf before else Scanning reg label leaf before count; steps = p.steps + (count - probed) }) (ne_eqb count p.slots (λ e. omega (arith, e, there)))

  -- it probes this slot next
  pub skipped_next : (count : ℕ) → count < p.slots → next_of (skipped_to p count) ≡ ops.ClaimHeader (probe_of p count) (header_word leaf label)
  unfolding next_of next_at
  skipped_next count there = ap next_of (skipped_there count there)

  -- a skip to where the scan is changes nothing
  pub skipped_none : probed < p.slots → skipped_to p probed ≡ p
  skipped_none there =
      skipped_there probed there ∙ ap (λ n. record p { phase = Scanning reg label leaf before probed; steps = n }) (omega arith) ∙ ap (λ (phase : Phase). record p { phase = phase }) (sym scans)

  -- A skip, and one failing probe more, are the skip by one probe more.
  pub skipped_further : (count word : ℕ) → probed ≤ count → count < p.slots → word ≢ 0 → took_of (skipped_to p count) word ≡ skipped_to p (count + 1)
  unfolding took_of took_at
  skipped_further count word ahead there taken =
      let q : Private = record p { phase = Scanning reg label leaf before count; steps = p.steps + (count - probed) } in
      ap (λ (r : Private). took_of r word) (skipped_there count there)
      ∙ ap (λ (b : Bool). if b then born_in q reg label leaf (probe_of q count) else moved q (if count + 1 == p.slots then Scanned reg label leaf before else Scanning reg label leaf before (count + 1))) (ne_eqb word 0 taken)
      ∙ ap (λ n. record q { phase = if count + 1 == p.slots then Scanned reg label leaf before else Scanning reg label leaf before (count + 1); steps = n }) (omega (arith, ahead))
      ∙ sym (skipped (count + 1))

  -- it takes no mailbox
  unswapped : (q : Private) (count : ℕ) (b : Bool) (box : Contents) → q.phase ≡ (if b then Scanned reg label leaf before else Scanning reg label leaf before count) → (swapped_of q box ≡ q) × (left_of q box ≡ box)
  unfolding swapped_of swapped_at left_of left_at
  unswapped q count true box phase = (ap (swapped_at q box) phase, ap (left_at q box) phase)
  unswapped q count false box phase = (ap (swapped_at q box) phase, ap (left_at q box) phase)

  pub skipped_alone : (count : ℕ) (box : Contents) → (swapped_of (skipped_to p count) box ≡ skipped_to p count) × (left_of (skipped_to p count) box ≡ box)
  skipped_alone count box = unswapped (skipped_to p count) count (count == p.slots) box (ap (λ (q : Private). q.phase) (skipped count))

  -- it goes on
  scan_busy : (count : ℕ) (b : Bool) (phase : Phase) → phase ≡ (if b then Scanned reg label leaf before else Scanning reg label leaf before count) → is_busy_at phase ≡ true
  scan_busy count true phase is = ap is_busy_at is
  scan_busy count false phase is = ap is_busy_at is

  pub skipped_busy : (count : ℕ) → is_busy (skipped_to p count) ≡ true
  skipped_busy count = scan_busy count (count == p.slots) (skipped_to p count).phase (ap (λ (q : Private). q.phase) (skipped count))
