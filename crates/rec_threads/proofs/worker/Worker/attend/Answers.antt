-- The contract of `Worker::attend`: polls where the collector waits for it, and lets others run, until the collector's worker has ended.
use Rattle.std.proofs.Common.{rules, ◌≡◌, Bool, true, false, List, [], replicate, sym, subst, ◌∙◌, arith}
use Rattle.std.proofs.lemmas.List.{replicate-append-replicate}
use Rattle.std.proofs.lemmas.List.Elements.{All-nil}
use Rattle.rec_mutator.specs.declared.work.Work.{Work}
use Rattle.rec_mutator.specs.declared.work.Work.TheVariants as works
use Rattle.rec_table.specs.Views.{mutator_now}
use Rattle.rec_threads.specs.Done.{HasMade}
use Rattle.rec_threads.proofs.Works.{made_none, made_on, stays, still_own}
use Rattle.rec_threads.proofs.worker.Worker.attend.Goals as goal

pub returns-then-left-clause-made : goal.returns-then-left-clause-made
returns-then-left-clause-made g c = made_none c.args.self.now

pub loop-init : goal.loop-init
loop-init g c = record { few = omega arith; made = made_none c.args.self.now }

pub poll_if_awaited-polls-requires : goal.poll_if_awaited-polls-requires
poll_if_awaited-polls-requires g c = record {
  own = still_own c.args.heap.now c.args.self.now.mutator c.loop.self.mutator c.loop.invariant.made.mutator c.requires;
  present =
      let here : (mutator_now c.args.self.now.mutator).left ≡ false = search rules in
      stays [] (replicate c.loop.polls works.Poll) c.args.self.now c.loop.self c.loop.invariant.made (All-nil _) ∙ here;
}

pub loop-preserved : goal.loop-preserved
loop-preserved g c = record {
  few = let once = c.poll_if_awaited-polls.ensures.few in omega (arith, once);
  made = subst (λ (done : List Work). HasMade [] done c.args.self.now c.poll_if_awaited-polls.new.self) (replicate-append-replicate c.loop.polls c.poll_if_awaited-polls.result works.Poll)
      (made_on [] [] (replicate c.loop.polls works.Poll) (replicate c.poll_if_awaited-polls.result works.Poll) c.args.self.now c.loop.self c.poll_if_awaited-polls.new.self c.loop.invariant.made c.poll_if_awaited-polls.ensures.made);
}

pub returns-then-is_some-clause-gone : goal.returns-then-is_some-clause-gone
returns-then-is_some-clause-gone g c = λ gone.
    let here : (mutator_now c.args.self.now.mutator).left ≡ false = search rules in
    let both : ◌≡◌ {A = Bool} true false = sym gone ∙ stays [] (replicate c.loop.polls works.Poll) c.args.self.now c.loop.self c.loop.invariant.made (All-nil _) ∙ here in
    cc
