-- The numbering is that of the listing, and the rows stand behind their number.
use Rattle.std.proofs.Common.{◌∙◌, refl}
use Rattle.rec_report.proofs.Rows.{listed}
use Rattle.rec_report.proofs.page.Text.add_listing.Goals as goal

pub add_rows-requires-clause-numbers : goal.add_rows-requires-clause-numbers
add_rows-requires-clause-numbers c = record { same_fields = c.fields.ensures.value ∙ c.requires.script.fields; numbers = c.in_ok-numbering.ensures }

pub returns : goal.returns
returns c = listed c.args.world.now c.in_ok-numbering.numbering _ _ _ _ _ _ c.in_ok-numbering.ensures c.list-live.ensures.list refl c.in_ok-live.ensures c.in_ok-add.ensures c.in_ok-add_rows.ensures
