-- Why a heap isn't opened, as its code says.
use Rattle.std.proofs.Common.{◌≡◌, None, Option, List, refl}
use Rattle.rec_core.specs.declared.config.Config.{Config}
use Rattle.rec_core.specs.declared.part.Part.TheVariants as parts
use Rattle.rec_world.specs.OpenError.{IsRefused}
use Rattle.rec_world.specs.declared.open_error.OpenError.{OpenError}
use Rattle.rec_world.specs.declared.open_error.OpenError.TheVariants as errors
use Rattle.recycler_c.specs.Calls.{Opens}
use Rattle.recycler_c.specs.Codes.{code_of}
use Rattle.recycler_c.specs.declared.end.End.{End}
use Rattle.recycler_c.specs.declared.handle.Handle.{Handle}

pub opens_refused : (config : Config) (h : Option End) (hs : List Handle) (error : OpenError) → IsRefused config error → h ≡ None → Opens config h hs (code_of error) h hs
opens_refused config h hs errors.NoMemory r closed = record { was = closed; error = errors.NoMemory; is = refl; cause = r; same = record { collector = refl; mutators = refl } }
opens_refused config h hs (errors.Config parts.Slots) r closed = record { was = closed; error = (errors.Config parts.Slots); is = refl; cause = r; same = record { collector = refl; mutators = refl } }
opens_refused config h hs (errors.Config parts.Fields) r closed = record { was = closed; error = (errors.Config parts.Fields); is = refl; cause = r; same = record { collector = refl; mutators = refl } }
opens_refused config h hs (errors.Config parts.Registers) r closed = record { was = closed; error = (errors.Config parts.Registers); is = refl; cause = r; same = record { collector = refl; mutators = refl } }
opens_refused config h hs (errors.Config parts.Mutators) r closed = record { was = closed; error = (errors.Config parts.Mutators); is = refl; cause = r; same = record { collector = refl; mutators = refl } }
opens_refused config h hs (errors.Config parts.LogEntries) r closed = record { was = closed; error = (errors.Config parts.LogEntries); is = refl; cause = r; same = record { collector = refl; mutators = refl } }
opens_refused config h hs (errors.Config parts.FirstEpoch) r closed = record { was = closed; error = (errors.Config parts.FirstEpoch); is = refl; cause = r; same = record { collector = refl; mutators = refl } }
