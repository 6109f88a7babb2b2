-- The epochs through each kind of move.
use Rattle.std.proofs.Common.{◌≡◌, ℕ, ◌+◌, ◌<◌, ◌≤◌, false, ltb, List, refl, arith}
use Rattle.std.proofs.lemmas.Bool.Decides.{nat_tests}
use Rattle.std.proofs.lemmas.List.Sums.{sum_by-le-sum_by}
use Rattle.rec_model.proofs.Common.{only_if, epoch_of, home, dated, Pending, word_in, Puts, Registers, Bears, Crosses, LetsGo, Requests, Applies, Clears, is_up_to, with_answer, is_late_word, is_wrong_write, is_wrong_register, is_late_snapshot, HasEpochs}
use Rattle.rec_model.proofs.Sums.{get_or-le-sum_at, sum_at-le-sum_at, sum_by_none, sum_by_split}
use Rattle.rec_model.proofs.Weights.{none_if_not_lt, not_lt_from_none}
use Rattle.rec_model.proofs.Ledgers.{epoch_of_null, epoch_after, epoch_within}

pub put_epochs : (w v : Pending) (epoch place new : ℕ) → Puts w v epoch place new → HasEpochs w → HasEpochs (record w { words = v.words; writes = v.writes })
put_epochs w v epoch place new s ep =
    let after : w.applied < epoch = epoch_after w epoch (home w.fields place) ep s.source in
    let within : epoch ≤ w.requested = epoch_within w epoch (home w.fields place) ep s.source in
    let ripe : epoch_of new ≤ w.requested = omega (arith, s.stamp, within) in
    let old : epoch_of (word_in w place) ≤ w.requested = not_lt_from_none w.requested (epoch_of (word_in w place)) (omega (arith, ep.words, get_or-le-sum_at (is_late_word w.requested) w.words place 0 s.inside)) in
    record {
      behind = ep.behind;
      near = ep.near;
      words = omega (arith, ep.words, s.words (is_late_word w.requested), none_if_not_lt w.requested (epoch_of new) 1 ripe);
      writes = omega (arith, ep.writes, s.writes (is_wrong_write w.requested), none_if_not_lt w.requested (epoch_of new) 1 ripe, none_if_not_lt (epoch_of new + 1) (epoch_of (word_in w place)) 1 (omega (arith, s.stamp, ep.near, after, old)));
      registers = ep.registers;
      snapshots = ep.snapshots;
    }

pub register_epochs : (w v : Pending) (epoch old new : ℕ) → Registers w v epoch old new → HasEpochs w → HasEpochs (record w { registers = v.registers })
register_epochs w v epoch old new s ep =
    record {
      behind = ep.behind;
      near = ep.near;
      words = ep.words;
      writes = ep.writes;
      registers = omega (arith, ep.registers, s.registers (is_wrong_register w.applied w.requested));
      snapshots = ep.snapshots;
    }

pub birth_epochs : (w v : Pending) (epoch old x : ℕ) → Bears w v epoch old x → HasEpochs w → HasEpochs (record w { births = v.births; registers = v.registers; free = with_answer w.free x false; leaf = v.leaf })
birth_epochs w v epoch old x s ep =
    record {
      behind = ep.behind;
      near = ep.near;
      words = ep.words;
      writes = ep.writes;
      registers = omega (arith, ep.registers, s.registers (is_wrong_register w.applied w.requested));
      snapshots = ep.snapshots;
    }

pub crossing_epochs : (w v : Pending) (epoch : ℕ) (ns : List ℕ) → Crosses w v epoch ns → HasEpochs w → HasEpochs (record w { snapshots = v.snapshots; registers = v.registers })
crossing_epochs w v epoch ns s ep =
    let asked : epoch + 1 ≡ w.requested = s.asked in
    let after : w.applied < epoch = s.unapplied in
    record {
      behind = ep.behind;
      near = ep.near;
      words = ep.words;
      writes = ep.writes;
      registers = omega (arith, ep.registers, s.registers (is_wrong_register w.applied w.requested), sum_by_none (λ n. is_wrong_register w.applied w.requested (dated (epoch + 1) n)) ns (λ n. grind (arith, nat_tests)));
      snapshots = omega (arith, ep.snapshots, s.snapshots (is_late_snapshot w.requested), sum_by_none (λ n. is_late_snapshot w.requested (dated epoch n)) ns (λ n. grind (arith, nat_tests)));
    }

pub leaving_epochs : (w v : Pending) → LetsGo w v → HasEpochs w → HasEpochs (record w { registers = v.registers })
leaving_epochs w v s ep =
    record {
      behind = ep.behind;
      near = ep.near;
      words = ep.words;
      writes = ep.writes;
      registers = omega (arith, ep.registers, s.registers (is_wrong_register w.applied w.requested));
      snapshots = ep.snapshots;
    }

pub request_epochs : (w v : Pending) → Requests w v → HasEpochs w → HasEpochs (record w { requested = w.requested + 1 })
request_epochs w v s ep =
    let r : ℕ = w.requested in
    record {
      behind = omega (arith, s.done);
      near = omega (arith, s.done);
      words = omega (arith, ep.words, sum_at-le-sum_at (is_late_word (r + 1)) (is_late_word r) w.words (λ i word. grind (arith, nat_tests)));
      writes = omega (arith, ep.writes, sum_by-le-sum_by (is_wrong_write (r + 1)) (is_wrong_write r) w.writes (λ e. grind (arith, nat_tests)));
      registers = omega (arith, ep.registers, sum_by-le-sum_by (is_wrong_register w.applied (r + 1)) (is_wrong_register w.applied r) w.registers (λ d. grind (arith, nat_tests)));
      snapshots = omega (arith, ep.snapshots, sum_by-le-sum_by (is_late_snapshot (r + 1)) (is_late_snapshot r) w.snapshots (λ d. grind (arith, nat_tests)));
    }

pub batch_epochs : (w v : Pending) → Applies w v → HasEpochs w → HasEpochs (record w { applied = w.applied + 1; count = v.count })
batch_epochs w v s ep =
    record {
      behind = omega (arith, s.asked);
      near = omega (arith, s.asked);
      words = ep.words;
      writes = ep.writes;
      registers = omega (arith, ep.registers, s.crossed, sum_by_split (is_wrong_register (w.applied + 1) w.requested) (is_up_to (w.applied + 1)) (λ d. only_if (ltb w.requested d.epoch) 1) w.registers (λ d. refl), sum_by-le-sum_by (λ d. only_if (ltb w.requested d.epoch) 1) (is_wrong_register w.applied w.requested) w.registers (λ d. omega arith));
      snapshots = ep.snapshots;
    }

pub clearing_epochs : (w v : Pending) (place : ℕ) → Clears w v place → HasEpochs w → HasEpochs (record w { words = v.words; count = v.count })
clearing_epochs w v place s ep =
    record {
      behind = ep.behind;
      near = ep.near;
      words = omega (arith, ep.words, s.words (is_late_word w.requested), none_if_not_lt w.requested (epoch_of 0) 1 (omega (arith, epoch_of_null)));
      writes = ep.writes;
      registers = ep.registers;
      snapshots = ep.snapshots;
    }
