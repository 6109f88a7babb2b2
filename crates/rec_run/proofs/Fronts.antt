-- Lines written one after the other are a front of all lines.
use Rattle.std.proofs.Common.{◌≡◌, ℕ, ◌+◌, ◌<◌, List, [], ◌∷◌, ◌++◌, take, drop, get_or, length, sym, ap, ◌∙◌, append_assoc}
use Rattle.std.specs.List.{flat_map}
use Rattle.std.proofs.lemmas.List.{append-nil, take_more, take-append-drop}
use Rattle.std.proofs.lemmas.Grind.{flat_map-append}

-- all bytes of some lines
abbrev pub joined : List (List ℕ) → List ℕ
joined = flat_map (λ line. line)

-- one line more
pub joined_more : (lines : List (List ℕ)) (i : ℕ) (line d : List ℕ) → i < length lines → line ≡ get_or lines i d → joined (take (i + 1) lines) ≡ joined (take i lines) ++ line
joined_more lines i line d there is =
    ap joined (take_more lines i d there)
    ∙ flat_map-append (λ l. l) (take i lines) (get_or lines i d ∷ [])
    ∙ ap (λ l. joined (take i lines) ++ l) (append-nil (get_or lines i d) ∙ sym is)

-- the lines so far, a cut line, and what follows
pub joined_cut : (lines : List (List ℕ)) (i : ℕ) (line front back d : List ℕ) → i < length lines → line ≡ get_or lines i d → line ≡ front ++ back
    → joined lines ≡ (joined (take i lines) ++ front) ++ (back ++ joined (drop (i + 1) lines))
joined_cut lines i line front back d there is cut =
    let before : List ℕ = joined (take i lines) in
    let behind : List ℕ = joined (drop (i + 1) lines) in
    ap joined (sym (take-append-drop (i + 1) lines))
    ∙ flat_map-append (λ l. l) (take (i + 1) lines) (drop (i + 1) lines)
    ∙ ap (λ l. l ++ behind) (joined_more lines i line d there is ∙ ap (λ l. before ++ l) cut ∙ sym (append_assoc before front back))
    ∙ append_assoc (before ++ front) back behind
