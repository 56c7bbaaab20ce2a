-- Texts of style Race, byte by byte.
use Rattle.std.specs.Prelude.{ℕ, Bool, true, false, not, ◌&&◌, ◌||◌, ◌==◌, if◌then◌else◌, Option, Some, None}
use Rattle.rl_text.specs.declared.place.Place.{Place}
use Rattle.rl_text.specs.declared.place.Place.TheVariants as place
use Rattle.rl_text.specs.Names.{is_name_byte}
use Rattle.rl_text.specs.Pieces.{is_blank, is_newline}
use Rattle.rl_text.specs.Front.{is_sign}

-- good wherever it is outside of comments, and no beginning of a comment, a dash or an arrow
abbrev pub is_plain : ℕ → Bool
is_plain b = is_name_byte b || is_blank b || is_newline b || is_sign b

abbrev pub in_comment : Place → Bool
in_comment place.Comment = true
in_comment _ = false

abbrev pub after_dash : Place → Bool
after_dash place.Dash = true
after_dash _ = false

-- where a text is after a byte more, unless the byte is bad
abbrev pub next_place : Place → ℕ → Option Place
next_place p b =
    if in_comment p && not (is_newline b) then Some place.Comment
    else (if is_plain b then Some place.Between
    else (if b == 35 then Some place.Comment
    else (if b == 45 then Some place.Dash
    else (if b == 62 && after_dash p then Some place.Between
    else None))))
