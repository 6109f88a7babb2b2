-- The machine as a run of each kind begins.
use Rattle.rec_collector.proofs.machine.Machine.run_as.Given as goal

abbrev pub ghosts-run_freeing : goal.ghosts-run_freeing
ghosts-run_freeing g a = record { start = a.self.now }

abbrev pub ghosts-run_trial : goal.ghosts-run_trial
ghosts-run_trial g a = record { start = a.self.now }

abbrev pub ghosts-run_prep : goal.ghosts-run_prep
ghosts-run_prep g a = record { start = a.self.now }

abbrev pub ghosts-run_sweep : goal.ghosts-run_sweep
ghosts-run_sweep g a = record { start = a.self.now }
