-- What an auditor was shown: the lines of these steps stand behind what it had, where it notes. With what is asked of each watch.
use Rattle.std.proofs.Common.{◌≡◌, ◌∙◌, ℕ, Option, None, Some, List, [], ◌++◌, option_map, refl, sym, ap, append_assoc, append-nil}
use Rattle.std.specs.List.{flat_map}
use Rattle.std.proofs.lemmas.Grind.{flat_map-append}
use Rattle.rec_collector.specs.Shown.{Shown}
use Rattle.rec_audit.specs.Journal.{lines_of}
use Rattle.rec_audit.specs.Lines.{text_of, text_of_line}

-- the text goes on with the lines of these steps; where there is none, none is begun
abbrev pub GoesOn : (before : Option (List ℕ)) → List Shown → (after : Option (List ℕ)) → Type 0
GoesOn before steps after = after ≡ option_map (λ text. text ++ text_of (flat_map lines_of steps)) before

-- with no steps it stays
pub none_noted : (text : Option (List ℕ)) → GoesOn text [] text
none_noted None = refl
none_noted (Some text) = ap Some (sym (append-nil text))

-- and steps may stand behind others
pub noted_then : (a b c : Option (List ℕ)) (first later : List Shown) → GoesOn a first b → GoesOn b later c → GoesOn a (first ++ later) c
noted_then None b c first later e f = f ∙ ap (option_map (λ text. text ++ text_of (flat_map lines_of later))) e
noted_then (Some a) b c first later e f =
    f
    ∙ ap (option_map (λ text. text ++ text_of (flat_map lines_of later))) e
    ∙ ap Some (append_assoc a (text_of (flat_map lines_of first)) (text_of (flat_map lines_of later))
    ∙ ap (λ t. a ++ t) (sym (flat_map-append text_of_line (flat_map lines_of first) (flat_map lines_of later)) ∙ ap text_of (sym (flat_map-append lines_of first later))))
