-- How a run ends, from what its parts tell.
use Rattle.std.proofs.Common.{◌≡◌, ◌≢◌, ◌⊎◌, inl, inr, true, ℕ, ◌+◌, ◌<◌, ◌≤◌, List, [], ◌∷◌, ◌++◌, Option, None, Some, Result, Ok, Err, length, map, refl, sym, ap, subst, ◌∙◌, arith}
use Rattle.std.specs.Result.{IfOk, result_or}
use Rattle.std.proofs.lemmas.Bool.{cases_lt, false≢true}
use Rattle.std.proofs.lemmas.List.{append-nil, length-append}
use Rattle.rec_io.specs.Faults.{Rose}
use Rattle.rec_io.specs.Sink.{Appends}
use Rattle.rec_io.specs.Source.{Passes}
use Rattle.rec_io.specs.Told.{KeepsTold}
use Rattle.rec_io.proofs.Faults.{rose_since}
use Rattle.rec_io.proofs.Told.{untold}
use Rattle.rec_model.specs.Heap.{Heap, count_of}
use Rattle.rec_model.specs.LegalOrder.{Line, Event, actors}
use Rattle.rec_model.specs.Listing.{Row, IsListing, ListsSlots, row}
use Rattle.rec_model.specs.Sight.{Represents}
use Rattle.rec_model.proofs.Listed.{listing_carried}
use Rattle.rec_core.specs.Settled.{IsSettled}
use Rattle.rec_world.specs.World.{Core, sight}
use Rattle.rec_run.specs.declared.status.Status.{Status}
use Rattle.rec_run.specs.declared.status.Status.TheVariants as statuses
use Rattle.rec_script.specs.declared.error.Kind.{Kind}
use Rattle.rec_script.specs.declared.error.ScriptError.{ScriptError}
use Rattle.rec_script.specs.declared.error.ScriptError.TheVariants.{Bad}
use Rattle.rec_request.specs.CommandLine.{Asks, ReadsScript}
use Rattle.rec_run.specs.Ends.{Passage, Failed, Ends, HasCause, passage}
use Rattle.rec_run.specs.Headline.{Are, HasRead, IsReadOut, IsAnswer, Answers, AnswersTo, AreExplained, TellsOf, WroteAnswer, WroteFront, IsReadPast, IsRefusedFor, ReadRefused, ResumesTo, IsTail, behind, is_summary, is_traced, printed, printed_order}
use Rattle.rec_run.specs.Making.{IsMade}
use Rattle.rec_play.specs.Start.{Start, moment_at}
use Rattle.rec_script.proofs.Refusing.{refused_no_text}
use Rattle.rec_script.proofs.Uniqueness.{refused_once}
use Rattle.rec_request.specs.declared.request.How.{How}
use Rattle.rec_request.specs.declared.request.How.TheVariants as hows
use Rattle.rec_request.specs.declared.request.Keeping.{Keeping}
use Rattle.rec_request.specs.declared.request.Make.{Make}
use Rattle.rec_request.specs.declared.request.Request.{Request}
use Rattle.rec_request.specs.declared.request.Resume.{Resume}
use Rattle.rec_request.specs.declared.request.Request.TheVariants as requests
use Rattle.rec_script.specs.Script.{ScriptContents, IsText, IsRefused}
use Rattle.rec_run.specs.Resuming.{IsResumable, IsUnresumed}
use Rattle.rec_run.specs.Running.{on_threads}
use Rattle.rec_io.specs.Whole.{IsAtEnd}
use Rattle.rec_run.proofs.Resumed.{unresumed_none}

-- one value in two options
pub some_same : {X : Type 0} (x y : X) → ◌≡◌ {A = Option X} (Some x) (Some y) → x ≡ y
some_same x y is = cc

-- what was read up to the end is all that was told
pub all_read : (rest left : Option (List ℕ)) (bytes : List ℕ) → Passes rest left bytes → IsAtEnd rest left → Are rest bytes
all_read rest left bytes passes end whole told =
    let passed = passes whole told in
    let none : passed.left ≡ [] = some_same passed.left [] (sym passed.told ∙ end whole told) in
    passed.front ∙ ap (λ (more : List ℕ). bytes ++ more) none ∙ append-nil bytes

-- bytes that were refused past the limit are refused with all that follow
past_limit : (request : Request) (bytes more rest : List ℕ) (line : ℕ) (kind : Kind) → 16777216 < length bytes → rest ≡ bytes ++ more → IsRefusedFor request bytes line kind → IsRefusedFor request rest line kind
past_limit request bytes more rest line kind long is = go request
  where
    beyond : 16777216 < length rest
    beyond = let longer : length rest ≡ length bytes + length more = ap length is ∙ length-append bytes more in omega (arith, longer, long)

    script : IsRefused bytes line kind → IsRefused rest line kind
    script (inl whole) = inl (record { many = beyond; whole = whole.whole; named = whole.named })
    script (inr stopped) = absurd (let few : length bytes ≤ 16777216 = stopped.few in omega (arith, few, long))

    image : IsUnresumed bytes line kind → IsUnresumed rest line kind
    image (inl whole) = inl (record { many = beyond; whole = whole.whole; named = whole.named })
    image (inr (few, at)) = absurd (omega (arith, few, long))

    go : (r : Request) → IsRefusedFor r bytes line kind → IsRefusedFor r rest line kind
    go (requests.Answer how) = script
    go (requests.Keep asked) = script
    go (requests.Resume asked) = image
    go (requests.Make asked) = λ never. never
    go requests.Audit = λ never. never

-- bytes within the limit that were read to the end
pub read_short : (rest left : Option (List ℕ)) (bytes : List ℕ) → Passes rest left bytes → length bytes ≤ 16777216 → IsAtEnd rest left → IsReadOut rest left
read_short rest left bytes passes short end = λ whole told. inl (end whole told, subst (λ (w : List ℕ). length w ≤ 16777216) (sym (all_read rest left bytes passes end whole told)) short)

-- bytes that were refused, read to the end or past the limit
pub read_refused : (request : Request) (rest left : Option (List ℕ)) (bytes : List ℕ) (line : ℕ) (kind : Kind) → Passes rest left bytes → (length bytes ≤ 16777216 → IsAtEnd rest left)
    → length bytes ≤ 16777216 + 65536 → IsRefusedFor request bytes line kind → ReadRefused request rest left line kind
read_refused request None left bytes line kind passes end few refused =
    record {
      bytes = bytes;
      read = λ whole told. untold (λ w. w ≡ bytes) whole told;
      ended = λ whole told. untold (λ w. ((left ≡ Some []) × (length w ≤ 16777216)) ⊎ IsReadPast w left) whole told;
      refused = refused;
    }
read_refused request (Some rest) left bytes line kind passes end few refused =
    let passed = passes rest refl in
    elim (cases_lt 16777216 (length bytes)) [
      | inl long ↦
          record {
            bytes = rest;
            read = λ whole told. sym (some_same rest whole told);
            ended = λ whole told. inr (subst (λ w. IsReadPast w left) (some_same rest whole told) (record { bytes = bytes; passed = passed; many = long; few = few }));
            refused = past_limit request bytes passed.left rest line kind long passed.front refused;
          }
      | inr short ↦
          record {
            bytes = bytes;
            read = all_read (Some rest) left bytes passes (end short);
            ended = read_short (Some rest) left bytes passes short (end short);
            refused = refused;
          }
    ]

-- no write failed in a run whose end is no fault of writing
pub none_failed : {K : Type 0} (faults : K → ℕ) (status result : Status) (old wrote new : K) → (status ≢ statuses.WriteFault → faults wrote ≡ faults old)
    → (status ≡ statuses.Done → (result ≡ statuses.Done) ⊎ ((result ≡ statuses.WriteFault) × Rose (faults wrote) (faults new)))
    → (result ≡ statuses.Done → faults new ≡ faults wrote) → (status ≢ statuses.Done → (result ≡ status) × (new ≡ wrote)) → result ≢ statuses.WriteFault
    → faults new ≡ faults old
none_failed faults statuses.Done result old wrote new writes done faultless other no_fault = elim (done refl) [
  | inl is ↦ faultless is ∙ writes (λ bad. cc)
  | inr (is, rose) ↦ absurd (no_fault is)
]
none_failed faults statuses.WriteFault result old wrote new writes done faultless other no_fault = absurd (no_fault (other (λ bad. cc)).0)
none_failed faults statuses.Usage result old wrote new writes done faultless other no_fault = ap faults (other (λ bad. cc)).1 ∙ writes (λ bad. cc)
none_failed faults (statuses.BadScript line kind) result old wrote new writes done faultless other no_fault = ap faults (other (λ bad. cc)).1 ∙ writes (λ bad. cc)
none_failed faults statuses.ReadFault result old wrote new writes done faultless other no_fault = ap faults (other (λ bad. cc)).1 ∙ writes (λ bad. cc)
none_failed faults statuses.NoMemory result old wrote new writes done faultless other no_fault = ap faults (other (λ bad. cc)).1 ∙ writes (λ bad. cc)

-- what a source that was read to its end, or past a limit that a script keeps, gave
read_out : (how : How) (rest left : Option (List ℕ)) (bytes text : List ℕ) → Passes rest left bytes → (length bytes ≤ 16777216 → IsAtEnd rest left) → AnswersTo bytes how text
    → HasRead (requests.Answer how) rest left bytes
read_out how rest left bytes text passes end answer = (all_read rest left bytes passes (end answer.short), end answer.short)

-- a text was written whole
pub wrote_answer : (how : How) (rest left before after : Option (List ℕ)) (bytes text : List ℕ) → Passes rest left bytes → (length bytes ≤ 16777216 → IsAtEnd rest left)
    → AnswersTo bytes how text → Appends before after text → WroteAnswer (requests.Answer how) rest left before after
wrote_answer how rest left before after bytes text passes end answer appends =
    record { bytes = bytes; read = read_out how rest left bytes text passes end answer; text = text; answer = answer; written = appends }

-- a front of a text was written
pub wrote_front : (how : How) (rest left before after : Option (List ℕ)) (bytes text : List ℕ) → Passes rest left bytes → (length bytes ≤ 16777216 → IsAtEnd rest left)
    → AnswersTo bytes how text → (front back : List ℕ) × (text ≡ front ++ back) × Appends before after front
    → WroteFront (requests.Answer how) rest left before after
wrote_front how rest left before after bytes text passes end answer (front, back, cut, appends) =
    record { bytes = bytes; read = read_out how rest left bytes text passes end answer; text = text; answer = answer; front = front; back = back; cut = cut; written = appends }

-- a journal of a script's collector was written whole
pub wrote_kept : (asked : Keeping) (rest left before after : Option (List ℕ)) (bytes text : List ℕ) → Passes rest left bytes → (length bytes ≤ 16777216 → IsAtEnd rest left)
    → TellsOf bytes asked text → Appends before after text → WroteAnswer (requests.Keep asked) rest left before after
wrote_kept asked rest left before after bytes text passes end answer appends =
    record { bytes = bytes; read = (all_read rest left bytes passes (end answer.short), end answer.short); text = text; answer = answer; written = appends }

-- or a front of it
pub wrote_kept_front : (asked : Keeping) (rest left before after : Option (List ℕ)) (bytes text : List ℕ) → Passes rest left bytes → (length bytes ≤ 16777216 → IsAtEnd rest left)
    → TellsOf bytes asked text → (front back : List ℕ) × (text ≡ front ++ back) × Appends before after front
    → WroteFront (requests.Keep asked) rest left before after
wrote_kept_front asked rest left before after bytes text passes end answer (front, back, cut, appends) =
    record { bytes = bytes; read = (all_read rest left bytes passes (end answer.short), end answer.short); text = text; answer = answer; front = front; back = back; cut = cut; written = appends }

-- the answer to a heap that goes on was written whole
pub wrote_resumed : (asked : Resume) (rest left before after : Option (List ℕ)) (bytes text : List ℕ) → Passes rest left bytes → (length bytes ≤ 16777216 → IsAtEnd rest left)
    → ResumesTo bytes asked text → Appends before after text → WroteAnswer (requests.Resume asked) rest left before after
wrote_resumed asked rest left before after bytes text passes end answer appends =
    record { bytes = bytes; read = (all_read rest left bytes passes (end answer.told.short), end answer.told.short); text = text; answer = answer; written = appends }

-- or a front of it
pub wrote_resumed_front : (asked : Resume) (rest left before after : Option (List ℕ)) (bytes text : List ℕ) → Passes rest left bytes → (length bytes ≤ 16777216 → IsAtEnd rest left)
    → ResumesTo bytes asked text → (front back : List ℕ) × (text ≡ front ++ back) × Appends before after front
    → WroteFront (requests.Resume asked) rest left before after
wrote_resumed_front asked rest left before after bytes text passes end answer (front, back, cut, appends) =
    record { bytes = bytes; read = (all_read rest left bytes passes (end answer.told.short), end answer.told.short); text = text; answer = answer; front = front; back = back; cut = cut; written = appends }

-- what was written stays written when it is passed on
appends_kept : (before after later : Option (List ℕ)) (bytes : List ℕ) → Appends before after bytes → KeepsTold after later → Appends before later bytes
appends_kept before after later bytes appends keeps written told = keeps (written ++ bytes) (appends written told)

-- the whole answer is a front of it
all_front : (request : Request) (rest left before after : Option (List ℕ)) → WroteAnswer request rest left before after → WroteFront request rest left before after
all_front request rest left before after wrote =
    record {
      bytes = wrote.bytes;
      read = wrote.read;
      text = wrote.text;
      answer = wrote.answer;
      front = wrote.text;
      back = [];
      cut = sym (append-nil wrote.text);
      written = wrote.written;
    }

-- a run is done, or it isn't
done_or_not : (status : Status) → (status ≡ statuses.Done) ⊎ (status ≢ statuses.Done)
done_or_not statuses.Done = inl refl
done_or_not statuses.Usage = inr (λ is. cc)
done_or_not (statuses.BadScript line kind) = inr (λ is. cc)
done_or_not statuses.ReadFault = inr (λ is. cc)
done_or_not statuses.WriteFault = inr (λ is. cc)
done_or_not statuses.NoMemory = inr (λ is. cc)

-- A run that was done and passed on what it wrote is done, and one that could not has a fault of writing.
passed_on : (request : Request) (result : Status) (source sink : Passage) (wrote : Option (List ℕ)) (faults : ℕ)
    → WroteAnswer request source.before source.after sink.before wrote → sink.faults ≤ faults
    → (result ≡ statuses.Done) ⊎ ((result ≡ statuses.WriteFault) × Rose faults sink.faults_after)
    → KeepsTold wrote sink.after
    → Ends request result source sink
passed_on request result source sink wrote faults answered rises fault kept =
    let whole : WroteAnswer request source.before source.after sink.before sink.after =
    record {
      bytes = answered.bytes;
      read = answered.read;
      text = answered.text;
      answer = answered.answer;
      written = appends_kept sink.before wrote sink.after answered.text answered.written kept;
    } in
    elim fault [
      | inl done ↦ subst (λ r. Ends request r source sink) (sym done) whole
      | inr (failed, rose) ↦
          subst (λ r. Ends request r source sink) (sym failed)
          (rose_since sink.faults faults sink.faults_after rises rose, all_front request source.before source.after sink.before sink.after whole)
    ]

-- So ends a run that was done, once the sink has passed on what it held. Every other end stays.
pub finished : {K : Type 0} (told : K → Option (List ℕ)) (faults : K → ℕ) (request : Request) (status result : Status) (source : Passage) (old wrote new : K)
    → Ends request status source (passage told faults old wrote) → faults old ≤ faults wrote
    → (status ≡ statuses.Done → (result ≡ statuses.Done) ⊎ ((result ≡ statuses.WriteFault) × Rose (faults wrote) (faults new)))
    → (status ≡ statuses.Done → KeepsTold (told wrote) (told new))
    → (status ≢ statuses.Done → (result ≡ status) × (new ≡ wrote))
    → Ends request result source (passage told faults old new)
finished told faults request status result source old wrote new ends rises fault kept other =
    elim (done_or_not status) [
      | inl done ↦
          passed_on request result source (passage told faults old new) (told wrote) (faults wrote)
          (subst (λ s. Ends request s source (passage told faults old wrote)) done ends) rises (fault done) (kept done)
      | inr not_done ↦
          let same = other not_done in
          subst (λ r. Ends request r source (passage told faults old new)) (sym same.0)
          (subst (λ k. Ends request status source (passage told faults old k)) (sym same.1) ends)
    ]

-- how a request ended that the words ask for has its cause
pub caused : (words : List (List ℕ)) (request : Request) (status : Status) (source sink : Passage) → Asks words request → Ends request status source sink → HasCause words status source sink
caused words request statuses.Usage source sink asks ends = absurd ends
caused words request (statuses.BadScript line kind) source sink asks ends = (request, asks, ends)
caused words request statuses.ReadFault source sink asks ends = ((request, asks, ends.0), ends.1)
caused words request statuses.WriteFault source sink asks ends = ends.0
caused words request _ source sink asks ends = tt

-- what is refused where a script is read is no script
script_refused : (request : Request) (bytes : List ℕ) (line : ℕ) (kind : Kind) → ReadsScript request → IsRefusedFor request bytes line kind → IsRefused bytes line kind
script_refused (requests.Answer how) bytes line kind reads refused = refused
script_refused (requests.Keep asked) bytes line kind reads refused = refused
script_refused (requests.Resume asked) bytes line kind reads refused = absurd reads
script_refused (requests.Make asked) bytes line kind reads refused = absurd reads
script_refused requests.Audit bytes line kind reads refused = absurd reads

-- a script that is told is answered, unless a call fails or memory runs out
pub completes : (request : Request) (status : Status) (source sink : Passage) → Ends request status source sink → ReadsScript request
    → (bytes : List ℕ) → source.before ≡ Some bytes → IsText bytes → (Failed source → ⊥) → (Failed sink → ⊥)
    → (status ≡ statuses.Done) ⊎ (status ≡ statuses.NoMemory)
completes request statuses.Done source sink ends reads bytes told text no_read no_write = inl refl
completes request statuses.NoMemory source sink ends reads bytes told text no_read no_write = inr refl
completes request statuses.Usage source sink ends reads bytes told text no_read no_write = absurd ends
completes request statuses.ReadFault source sink ends reads bytes told text no_read no_write = absurd (no_read ends.1)
completes request statuses.WriteFault source sink ends reads bytes told text no_read no_write = absurd (no_write ends.0)
completes request (statuses.BadScript line kind) source sink refused reads bytes told text no_read no_write =
    absurd (refused_no_text refused.bytes line kind (script_refused request refused.bytes line kind reads refused.refused) (subst IsText (refused.read bytes told) text))

-- something is said of every journal, unless a call fails or memory runs out
pub audits : (status : Status) (source sink : Passage) → Ends requests.Audit status source sink → (Failed source → ⊥) → (Failed sink → ⊥)
    → (status ≡ statuses.Done) ⊎ (status ≡ statuses.NoMemory)
audits statuses.Done source sink ends no_read no_write = inl refl
audits statuses.NoMemory source sink ends no_read no_write = inr refl
audits statuses.Usage source sink ends no_read no_write = absurd ends
audits statuses.ReadFault source sink ends no_read no_write = absurd (no_read ends.1)
audits statuses.WriteFault source sink ends no_read no_write = absurd (no_write ends.0)
audits (statuses.BadScript line kind) source sink ends no_read no_write = absurd ends.refused

-- a made script is written, unless a call fails or memory runs out
pub makes : (m : Make) (status : Status) (source sink : Passage) → Ends (requests.Make m) status source sink → (Failed sink → ⊥)
    → (status ≡ statuses.Done) ⊎ (status ≡ statuses.NoMemory)
makes m statuses.Done source sink ends no_write = inl refl
makes m statuses.NoMemory source sink ends no_write = inr refl
makes m statuses.Usage source sink ends no_write = absurd ends
makes m statuses.ReadFault source sink ends no_write = absurd ends.0
makes m statuses.WriteFault source sink ends no_write = absurd (no_write ends.0)
makes m (statuses.BadScript line kind) source sink ends no_write = absurd ends.refused

-- what is answered is the text of a script
answered_text : (request : Request) (rest left : Option (List ℕ)) (bytes text told : List ℕ) → ReadsScript request → HasRead request rest left bytes → IsAnswer request bytes text
    → rest ≡ Some told → IsText told
answered_text (requests.Answer how) rest left bytes text told reads read answer is = subst IsText (sym (read.0 told is)) (answer.script, answer.short, answer.spelled)
answered_text (requests.Keep asked) rest left bytes text told reads read answer is = subst IsText (sym (read.0 told is)) (answer.script, answer.short, answer.spelled)
answered_text (requests.Resume asked) rest left bytes text told reads read answer is = absurd reads
answered_text (requests.Make make) rest left bytes text told reads read answer is = absurd reads
answered_text requests.Audit rest left bytes text told reads read answer is = absurd reads

-- a text that is told and is no script's is refused with its line and kind, unless a read fails or memory runs out
pub refuses : (request : Request) (status : Status) (source sink : Passage) → Ends request status source sink → ReadsScript request
    → (bytes : List ℕ) (line : ℕ) (kind : Kind) → source.before ≡ Some bytes → IsRefused bytes line kind → (Failed source → ⊥)
    → (status ≡ statuses.BadScript line kind) ⊎ (status ≡ statuses.NoMemory)
refuses request statuses.NoMemory source sink ends is_read bytes line kind told refused no_read = inr refl
refuses request statuses.Usage source sink ends is_read bytes line kind told refused no_read = absurd ends
refuses request statuses.ReadFault source sink ends is_read bytes line kind told refused no_read = absurd (no_read ends.1)
refuses request statuses.Done source sink wrote is_read bytes line kind told refused no_read =
    absurd (refused_no_text bytes line kind refused (answered_text request source.before source.after wrote.bytes wrote.text bytes is_read wrote.read wrote.answer told))
refuses request statuses.WriteFault source sink ends is_read bytes line kind told refused no_read =
    let wrote = ends.1 in
    absurd (refused_no_text bytes line kind refused (answered_text request source.before source.after wrote.bytes wrote.text bytes is_read wrote.read wrote.answer told))
refuses request (statuses.BadScript l k) source sink ends is_read bytes line kind told refused no_read =
    let same = refused_once bytes l line k kind (subst (λ all. IsRefused all l k) (sym (ends.read bytes told)) (script_refused request ends.bytes l k is_read ends.refused)) refused in
    inl (ap (λ n. statuses.BadScript n k) same.0 ∙ ap (statuses.BadScript line) same.1)

-- an image that is told, with mutators behind it, goes on, unless a call fails or memory runs out
pub resumes : (asked : Resume) (status : Status) (source sink : Passage) → Ends (requests.Resume asked) status source sink
    → (bytes : List ℕ) → source.before ≡ Some bytes → IsResumable bytes → (Failed source → ⊥) → (Failed sink → ⊥)
    → (status ≡ statuses.Done) ⊎ (status ≡ statuses.NoMemory)
resumes asked statuses.Done source sink ends bytes told is no_read no_write = inl refl
resumes asked statuses.NoMemory source sink ends bytes told is no_read no_write = inr refl
resumes asked statuses.Usage source sink ends bytes told is no_read no_write = absurd ends
resumes asked statuses.ReadFault source sink ends bytes told is no_read no_write = absurd (no_read ends.1)
resumes asked statuses.WriteFault source sink ends bytes told is no_read no_write = absurd (no_write ends.0)
resumes asked (statuses.BadScript line kind) source sink refused bytes told is no_read no_write =
    absurd (unresumed_none refused.bytes line kind refused.refused (subst IsResumable (refused.read bytes told) is))

-- and bytes that are none are refused, unless a read fails or memory runs out
pub refuses_resuming : (asked : Resume) (status : Status) (source sink : Passage) → Ends (requests.Resume asked) status source sink
    → (bytes : List ℕ) → source.before ≡ Some bytes → (IsResumable bytes → ⊥) → (Failed source → ⊥)
    → ((line : ℕ) × (kind : Kind) × IsUnresumed bytes line kind × (status ≡ statuses.BadScript line kind)) ⊎ (status ≡ statuses.NoMemory)
refuses_resuming asked statuses.NoMemory source sink ends bytes told none no_read = inr refl
refuses_resuming asked statuses.Usage source sink ends bytes told none no_read = absurd ends
refuses_resuming asked statuses.ReadFault source sink ends bytes told none no_read = absurd (no_read ends.1)
refuses_resuming asked statuses.Done source sink wrote bytes told none no_read =
    absurd (none (subst IsResumable (sym (wrote.read.0 bytes told)) (wrote.answer.contents, wrote.answer.given, wrote.answer.told)))
refuses_resuming asked statuses.WriteFault source sink (failed, wrote) bytes told none no_read =
    absurd (none (subst IsResumable (sym (wrote.read.0 bytes told)) (wrote.answer.contents, wrote.answer.given, wrote.answer.told)))
refuses_resuming asked (statuses.BadScript line kind) source sink refused bytes told none no_read =
    inl (line, kind, subst (λ all. IsUnresumed all line kind) (sym (refused.read bytes told)) refused.refused, refl)

-- what holds of whatever was made
pub each_ok : {T E : Type 0} (r : Result T E) (P : T → Type 0) → ((x : T) → r ≡ Ok x → P x) → IfOk r P
each_ok (Ok x) P each = each x refl
each_ok (Err e) P each = record {}

-- it stays where an error is told as another
pub if_ok_or : {T E D : Type 0} (r : Result T E) (e : D) (P : T → Type 0) → IfOk r P → IfOk (result_or r (Err e)) P
if_ok_or (Ok x) e P held = held
if_ok_or (Err _) e P held = held

-- the counts in a listing's rows
row_counts : (heap : Heap) (numbering ns : List ℕ) → map (λ (r : Row). r.count) (map (row heap numbering) ns) ≡ map (count_of heap numbering) ns
row_counts heap numbering [] = refl
row_counts heap numbering (n ∷ ns) = ap (λ (l : List ℕ). count_of heap numbering n ∷ l) (row_counts heap numbering ns)

counted : (heap : Heap) (rows : List Row) (listing : IsListing heap rows) → map (λ (r : Row). r.count) rows ≡ map (count_of heap listing.0) listing.0
counted heap rows (ns, listed, are) = ap (map (λ (r : Row). r.count)) are ∙ row_counts heap ns ns

-- what was run, settled and listed is the answer
pub answers_script : (script : ScriptContents) (start : Start) (how : How) (journals : List (List Line)) (events : List Event) (end world : Core) (rows : List Row) (text tail : List ℕ)
    → AreExplained script (moment_at script start) journals events → IsMade script start how journals events end world → IsSettled world
    → Represents (behind script (moment_at script start) events).heap (sight world)
    → length world.headers ≡ script.slots → ListsSlots (sight world) rows → IsTail (is_traced how) end world tail
    → text ≡ printed script.version (is_summary how) journals (printed_order how (actors events)) rows (length (behind script (moment_at script start) events).heap.objects) world ++ tail
    → Answers script start how text
answers_script script start how journals events end world rows text tail explained made settled stands room listed ends written =
    let heap : Heap = (behind script (moment_at script start) events).heap in
    let listing : IsListing heap rows = listing_carried heap (sight world) rows stands settled.collected listed in
    record {
      journals = journals;
      events = events;
      end = end;
      world = world;
      meaning = record {
        explained = explained;
        rows = rows;
        settled = record {
          settled = settled;
          reached = settled.collected;
          room = room;
          stands = stands;
          listing = listing;
          counts = counted heap rows listing;
        };
        tail = tail;
        ends = ends;
        written = written;
      };
      made = made;
    }

-- the line and the kind that are passed on
pub bad_same : {T : Type 0} (e : ScriptError) (l m : ℕ) (j k : Kind) → e ≡ Bad l j → statuses.BadScript l j ≡ statuses.BadScript m k → ◌≡◌ {A = Result T ScriptError} (Err e) (Err (Bad m k))
bad_same e l m j k e_is is =
    let lines : l ≡ m = (cc) in
    let kinds : j ≡ k = (cc) in
    (cc)
