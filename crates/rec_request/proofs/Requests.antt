-- What a command line asks for is one thing, with its numbers in their ranges.
use Rattle.std.proofs.Common.{◌≡◌, ◌≤◌, ℕ, codes, List, Option, None, Some, refl, sym, ap, subst, ◌∙◌, arith, get_or}
use Rattle.clap.specs.Words.{Row as Found, first_of, subcommand_of}
use Rattle.rec_request.specs.CommandLine.{recycler, AsksBy, Asks, AsksToRead, IsInRange, ReadsScript, Says}
use Rattle.rec_request.specs.declared.request.How.TheVariants as hows
use Rattle.rec_request.specs.declared.request.Make.{Make}
use Rattle.rec_request.specs.declared.request.Request.{Request}
use Rattle.rec_request.specs.declared.request.Resume.{Resume}
use Rattle.rec_request.specs.declared.request.Request.TheVariants as requests

-- two subcommands
play_or_make : (name : List ℕ) → name ≡ codes "play" → name ≡ codes "make" → ⊥
play_or_make name play make =
    let letters : 112 ≡ 109 = ap (λ (text : List ℕ). get_or text 0 0) (sym play ∙ make) in
    omega (arith, letters)

threads_or_make : (name : List ℕ) → name ≡ codes "threads" → name ≡ codes "make" → ⊥
threads_or_make name threads make =
    let letters : 116 ≡ 109 = ap (λ (text : List ℕ). get_or text 0 0) (sym threads ∙ make) in
    omega (arith, letters)

audit_or_play : (name : List ℕ) → name ≡ codes "audit" → name ≡ codes "play" → ⊥
audit_or_play name audit play =
    let letters : 97 ≡ 112 = ap (λ (text : List ℕ). get_or text 0 0) (sym audit ∙ play) in
    omega (arith, letters)

audit_or_threads : (name : List ℕ) → name ≡ codes "audit" → name ≡ codes "threads" → ⊥
audit_or_threads name audit threads =
    let letters : 97 ≡ 116 = ap (λ (text : List ℕ). get_or text 0 0) (sym audit ∙ threads) in
    omega (arith, letters)

audit_or_make : (name : List ℕ) → name ≡ codes "audit" → name ≡ codes "make" → ⊥
audit_or_make name audit make =
    let letters : 97 ≡ 109 = ap (λ (text : List ℕ). get_or text 0 0) (sym audit ∙ make) in
    omega (arith, letters)

resume_or_play : (name : List ℕ) → name ≡ codes "resume" → name ≡ codes "play" → ⊥
resume_or_play name resume play =
    let letters : 114 ≡ 112 = ap (λ (text : List ℕ). get_or text 0 0) (sym resume ∙ play) in
    omega (arith, letters)

resume_or_threads : (name : List ℕ) → name ≡ codes "resume" → name ≡ codes "threads" → ⊥
resume_or_threads name resume threads =
    let letters : 114 ≡ 116 = ap (λ (text : List ℕ). get_or text 0 0) (sym resume ∙ threads) in
    omega (arith, letters)

resume_or_make : (name : List ℕ) → name ≡ codes "resume" → name ≡ codes "make" → ⊥
resume_or_make name resume make =
    let letters : 114 ≡ 109 = ap (λ (text : List ℕ). get_or text 0 0) (sym resume ∙ make) in
    omega (arith, letters)

resume_or_audit : (name : List ℕ) → name ≡ codes "resume" → name ≡ codes "audit" → ⊥
resume_or_audit name resume audit =
    let letters : 114 ≡ 97 = ap (λ (text : List ℕ). get_or text 0 0) (sym resume ∙ audit) in
    omega (arith, letters)

-- words that ask for a script to be read ask for nothing else
pub asked_to_read : (words : List (List ℕ)) (request : Request) → Asks words request → AsksToRead words → ReadsScript request
asked_to_read words request asks (other, others, reads) = go (subcommand_of recycler words) request other asks.asked others.asked reads
  where
    go : (told : Option (List ℕ × List Found)) (request other : Request) → AsksBy told request → AsksBy told other → ReadsScript other → ReadsScript request
    go (Some (name, options)) (requests.Answer how) other one two reads = tt
    go (Some (name, options)) (requests.Keep j) other one two reads = tt
    go (Some (name, options)) (requests.Resume r) (requests.Keep j) one two reads = absurd (resume_or_play name one.0 two.0)
    go (Some (name, options)) (requests.Resume r) (requests.Answer (hows.Play p)) one two reads = absurd (resume_or_play name one.0 two.0)
    go (Some (name, options)) (requests.Resume r) (requests.Answer hows.Threads) one two reads = absurd (resume_or_threads name one.0 two)
    go (Some (name, options)) (requests.Resume r) (requests.Resume s) one two reads = absurd reads
    go (Some (name, options)) (requests.Resume r) (requests.Make n) one two reads = absurd reads
    go (Some (name, options)) (requests.Resume r) requests.Audit one two reads = absurd reads
    go (Some (name, options)) (requests.Make m) (requests.Resume s) one two reads = absurd reads
    go (Some (name, options)) requests.Audit (requests.Resume s) one two reads = absurd reads
    go (Some (name, options)) (requests.Make m) (requests.Keep j) one two reads = absurd (play_or_make name two.0 one.0)
    go (Some (name, options)) (requests.Make m) (requests.Answer (hows.Play p)) one two reads = absurd (play_or_make name two.0 one.0)
    go (Some (name, options)) (requests.Make m) (requests.Answer hows.Threads) one two reads = absurd (threads_or_make name two one.0)
    go (Some (name, options)) (requests.Make m) (requests.Make n) one two reads = absurd reads
    go (Some (name, options)) (requests.Make m) requests.Audit one two reads = absurd reads
    go (Some (name, options)) requests.Audit (requests.Keep j) one two reads = absurd (audit_or_play name one two.0)
    go (Some (name, options)) requests.Audit (requests.Answer (hows.Play p)) one two reads = absurd (audit_or_play name one two.0)
    go (Some (name, options)) requests.Audit (requests.Answer hows.Threads) one two reads = absurd (audit_or_threads name one two)
    go (Some (name, options)) requests.Audit (requests.Make n) one two reads = absurd reads
    go (Some (name, options)) requests.Audit requests.Audit one two reads = absurd reads
    go None request other one two reads = absurd one

-- words that ask what is to be said of a journal ask for nothing else
pub asked_to_audit : (words : List (List ℕ)) (request : Request) → Asks words request → Asks words requests.Audit → request ≡ requests.Audit
asked_to_audit words request asks audits = go (subcommand_of recycler words) request asks.asked audits.asked
  where
    go : (told : Option (List ℕ × List Found)) (request : Request) → AsksBy told request → AsksBy told requests.Audit → request ≡ requests.Audit
    go (Some (name, options)) (requests.Answer (hows.Play p)) one two = absurd (audit_or_play name two one.0)
    go (Some (name, options)) (requests.Answer hows.Threads) one two = absurd (audit_or_threads name two one)
    go (Some (name, options)) (requests.Keep j) one two = absurd (audit_or_play name two one.0)
    go (Some (name, options)) (requests.Resume r) one two = absurd (resume_or_audit name one.0 two)
    go (Some (name, options)) (requests.Make m) one two = absurd (audit_or_make name two one.0)
    go (Some (name, options)) requests.Audit one two = refl
    go None request one two = absurd one

-- words that ask for a heap to go on ask for nothing else
pub asked_to_resume : (words : List (List ℕ)) (request : Request) → Asks words request → (asked : Resume) → Asks words (requests.Resume asked) → (own : Resume) × (request ≡ requests.Resume own)
asked_to_resume words request asks asked resumes = go (subcommand_of recycler words) request asks.asked resumes.asked
  where
    go : (told : Option (List ℕ × List Found)) (request : Request) → AsksBy told request → AsksBy told (requests.Resume asked) → (own : Resume) × (request ≡ requests.Resume own)
    go (Some (name, options)) (requests.Answer (hows.Play p)) one two = absurd (resume_or_play name two.0 one.0)
    go (Some (name, options)) (requests.Answer hows.Threads) one two = absurd (resume_or_threads name two.0 one)
    go (Some (name, options)) (requests.Keep j) one two = absurd (resume_or_play name two.0 one.0)
    go (Some (name, options)) (requests.Resume r) one two = (r, refl)
    go (Some (name, options)) (requests.Make m) one two = absurd (resume_or_make name two.0 one.0)
    go (Some (name, options)) requests.Audit one two = absurd (resume_or_audit name two.0 one)
    go None request one two = absurd one

-- and so do words that ask for a made script
pub asked_to_make : (words : List (List ℕ)) (request : Request) → Asks words request → (m : Make) → Asks words (requests.Make m) → (own : Make) × (request ≡ requests.Make own)
asked_to_make words request asks m makes = go (subcommand_of recycler words) request asks.asked makes.asked
  where
    go : (told : Option (List ℕ × List Found)) (request : Request) → AsksBy told request → AsksBy told (requests.Make m) → (own : Make) × (request ≡ requests.Make own)
    go (Some (name, options)) (requests.Answer (hows.Play p)) one two = absurd (play_or_make name one.0 two.0)
    go (Some (name, options)) (requests.Answer hows.Threads) one two = absurd (threads_or_make name one two.0)
    go (Some (name, options)) (requests.Keep j) one two = absurd (play_or_make name one.0 two.0)
    go (Some (name, options)) (requests.Resume r) one two = absurd (resume_or_make name one.0 two.0)
    go (Some (name, options)) (requests.Make own) one two = (own, refl)
    go (Some (name, options)) requests.Audit one two = absurd (audit_or_make name one two.0)
    go None request one two = absurd one

-- an option's number is in its range
says_within : (text : Option (List ℕ)) (default most n : ℕ) → default ≤ most → Says text default most n → n ≤ most
says_within None default most n within says = subst (λ m. m ≤ most) (sym says) within
says_within (Some text) default most n within says = says.2

-- what words ask for has its numbers in their ranges
pub asked_in_range : (words : List (List ℕ)) (request : Request) → Asks words request → IsInRange request
asked_in_range words request asks = go (subcommand_of recycler words) request asks.asked
  where
    go : (told : Option (List ℕ × List Found)) (request : Request) → AsksBy told request → IsInRange request
    go (Some (name, options)) (requests.Answer (hows.Play p)) asked = says_within (first_of (codes "turns") options) 1000000 10000000 p.turns (omega arith) asked.1.limited
    go (Some (name, options)) (requests.Answer hows.Threads) asked = tt
    go (Some (name, options)) (requests.Keep j) asked = says_within (first_of (codes "turns") options) 1000000 10000000 j.turns (omega arith) asked.1.limited
    go (Some (name, options)) (requests.Resume r) asked = says_within (first_of (codes "turns") options) 1000000 10000000 r.turns (omega arith) asked.1.limited
    go (Some (name, options)) (requests.Make m) asked =
        (asked.1.some, says_within (first_of (codes "mutators") options) 2 8 m.mutators (omega arith) asked.1.few, says_within (first_of (codes "commands") options) 1000 200000 m.commands (omega arith) asked.1.limited)
    go (Some (name, options)) requests.Audit asked = tt
    go None request asked = absurd asked
