-- The snapshot's line stands behind the entries.
use Rattle.std.proofs.Common.{◌∙◌, ◌++◌, ◌∷◌, [], ap, map}
use Rattle.rec_audit.specs.Lines.{text_of, text_of_line}
use Rattle.rec_audit.specs.Journal.{entry_line, snap_line}
use Rattle.rec_audit.proofs.Written.{behind_lines, one_line}
use Rattle.rec_audit.proofs.steps.push_part.Goals as goal

pub returns : goal.returns
returns c =
    behind_lines c.args.text.now.items c.push_entries.new.text.items c.push_snap.new.text.items (map (entry_line c.args.mutator) c.args.buffer.now.entries) (snap_line c.args.mutator c.args.buffer.now.snapshot ∷ [])
    (c.in_ok-push_entries.ensures ∙ ap (λ es. c.args.text.now.items ++ text_of (map (entry_line c.args.mutator) es)) c.entries.ensures.entries)
    (one_line c.push_entries.new.text.items c.push_snap.new.text.items (snap_line c.args.mutator c.args.buffer.now.snapshot)
    (c.in_ok-push_snap.ensures ∙ ap (λ rs. c.push_entries.new.text.items ++ text_of_line (snap_line c.args.mutator rs)) c.snapshot.ensures))
