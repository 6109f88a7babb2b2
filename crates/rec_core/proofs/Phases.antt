-- The rules by which a collection goes on don't depend on the phase that it comes from.
use Rattle.rec_core.proofs.Common.{Begun, ClearsOn, Parts, Phase, PreparesOn, TriesOn, Turn}
use Rattle.rec_collector.specs.Private.{Private}
use Rattle.rec_sigma.specs.Prepare as preps
use Rattle.rec_trial.specs.Trial as trials

module _ {p q : Private} {turn : Turn} (phase : Phase) where
  prepares_in : {w : Parts} {v : preps.Work} → PreparesOn p w v q turn → PreparesOn (record p { phase = phase }) w v q turn
  prepares_in (PreparesOn.more some g) = PreparesOn.more some (record { after = g.after; answer = g.answer })
  prepares_in (PreparesOn.sweeps_next none some g) = PreparesOn.sweeps_next none some (record { after = g.after; answer = g.answer })
  prepares_in (PreparesOn.completes none free e) = PreparesOn.completes none free (record { after = e.after; answer = e.answer })

  tries_in : {w : Parts} {v : trials.Work} → TriesOn p w v q turn → TriesOn (record p { phase = phase }) w v q turn
  tries_in (TriesOn.more some g) = TriesOn.more some (record { after = g.after; answer = g.answer })
  tries_in (TriesOn.prepares over on) = TriesOn.prepares over (prepares_in on)

  pub clears_in : {b : Begun} → ClearsOn p q turn b → ClearsOn (record p { phase = phase }) q turn b
  clears_in (ClearsOn.works next is g) = ClearsOn.works next is (record { after = g.after; answer = g.answer })
  clears_in (ClearsOn.tests c none some tested on) = ClearsOn.tests c none some tested (clears_in on)
  clears_in (ClearsOn.tries none empty due on) = ClearsOn.tries none empty due (tries_in on)
  clears_in (ClearsOn.waits none empty off on) = ClearsOn.waits none empty off (prepares_in on)
