-- Whether a slot is of one colour.
use Rattle.std.specs.Prelude.{Bool, true, false}
use Rattle.rec_counts.specs.declared.colour.Colour.{Colour}
use Rattle.rec_counts.specs.declared.colour.Colour.TheVariants.{Black, Purple, Gray, White, Orange, Green}

abbrev pub is_black : Colour → Bool
is_black Black = true
is_black Purple = false
is_black Gray = false
is_black White = false
is_black Orange = false
is_black Green = false

abbrev pub is_purple : Colour → Bool
is_purple Black = false
is_purple Purple = true
is_purple Gray = false
is_purple White = false
is_purple Orange = false
is_purple Green = false

abbrev pub is_gray : Colour → Bool
is_gray Black = false
is_gray Purple = false
is_gray Gray = true
is_gray White = false
is_gray Orange = false
is_gray Green = false

abbrev pub is_white : Colour → Bool
is_white Black = false
is_white Purple = false
is_white Gray = false
is_white White = true
is_white Orange = false
is_white Green = false

abbrev pub is_orange : Colour → Bool
is_orange Black = false
is_orange Purple = false
is_orange Gray = false
is_orange White = false
is_orange Orange = true
is_orange Green = false

abbrev pub is_green : Colour → Bool
is_green Black = false
is_green Purple = false
is_green Gray = false
is_green White = false
is_green Orange = false
is_green Green = true

-- the colour of a slot of this colour once something holds it: Green stays, any other is Black
abbrev pub in_use : Colour → Colour
in_use Green = Green
in_use _ = Black

-- Gray becomes White, and any other colour stays
abbrev pub whitened : Colour → Colour
whitened Gray = White
whitened Black = Black
whitened Purple = Purple
whitened White = White
whitened Orange = Orange
whitened Green = Green
