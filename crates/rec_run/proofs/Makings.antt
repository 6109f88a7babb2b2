-- What was written of a made script.
use Rattle.std.proofs.Common.{◌≡◌, ℕ, List, [], ◌++◌, Option, refl}
use Rattle.rec_io.specs.Sink.{Appends}
use Rattle.rec_script.specs.Made.{made_text}
use Rattle.rec_request.specs.declared.request.Make.{Make}
use Rattle.rec_request.specs.declared.request.Request.TheVariants as requests
use Rattle.rec_run.specs.Headline.{WroteAnswer, WroteFront}

-- a made script was written whole
pub wrote_made : (m : Make) (rest before after : Option (List ℕ)) → Appends before after (made_text m.seed m.mutators m.commands) → WroteAnswer (requests.Make m) rest rest before after
wrote_made m rest before after appends =
    record { bytes = []; read = (refl, refl); text = made_text m.seed m.mutators m.commands; answer = refl; written = appends }

-- a front of a made script was written
pub wrote_made_front : (m : Make) (rest before after : Option (List ℕ))
    → (front back : List ℕ) × (made_text m.seed m.mutators m.commands ≡ front ++ back) × Appends before after front → WroteFront (requests.Make m) rest rest before after
wrote_made_front m rest before after (front, back, cut, appends) =
    record { bytes = []; read = (refl, refl); text = made_text m.seed m.mutators m.commands; answer = refl; front = front; back = back; cut = cut; written = appends }
