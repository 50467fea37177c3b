-- Details: what follows the name of a device in OPEN, USE and CLOSE. They are parameters, a timeout and a mnemonic space, each after
-- a colon. Standard: OPEN, USE, CLOSE, deviceparameters, timeout. Parameters differ between implementations, so details are read
-- byte by byte and have no tree. That no global, function, special variable or indirection occurs in them outside of quoted texts
-- is this project's own choice, as is that no parameter begins with `EXC`: EXCEPTION has M code.
use Rattle.std.specs.Prelude.{ℕ, suc, ◌≡◌, ◌-◌, ◌==◌, ◌||◌, Bool, true, false, List, [], ◌∷◌, Option, Some, None}
use Rattle.std.specs.Prelude.{if◌then◌else◌, option_map, option_and_then}
use Rattle.mlk_routine_arguments.specs.declared.details.Within.{Within}
use Rattle.mlk_routine_arguments.specs.declared.details.Within.TheVariants as within
use Rattle.mlk_routine_arguments.specs.declared.details.Spot.{Spot}

abbrev pub spot_at : Within → ℕ → Bool → Spot
spot_at w depth is_timed = record { within = w; depth = depth; is_timed = is_timed }

-- before details
abbrev pub first_spot : Spot
first_spot = spot_at within.Front 0 false

-- `^`, `$`, `@`, a space and `;`
abbrev pub is_left_out : ℕ → Bool
is_left_out b = (b == 94) || (b == 36) || (b == 64) || (b == 32) || (b == 59)

-- after a byte of a parameter, of which the first three are not EXC, in either case
abbrev pub lettered : Within → ℕ → Option Within
lettered within.First b = Some (if (b == 69) || (b == 101) then within.AfterE else within.Later)
lettered within.AfterE b = Some (if (b == 88) || (b == 120) then within.AfterEx else within.Later)
lettered within.AfterEx b = if (b == 67) || (b == 99) then None else Some within.Later
lettered w b = Some within.Later

-- After one more byte, if it may be there, outside of quoted texts: parentheses are balanced, and commas occur only inside of them. A
-- colon after the first one precedes a timeout, if it is outside of parentheses.
unfoldable pub in_parameter : Spot → ℕ → Option Spot
in_parameter spot b =
    if b == 34 then Some (spot_at within.Quoted spot.depth spot.is_timed)
    else if b == 58 then Some (spot_at within.First spot.depth (spot.is_timed || (spot.depth == 0)))
    else if b == 40 then Some (spot_at within.First (suc spot.depth) spot.is_timed)
    else if b == 41 then (if spot.depth == 0 then None else Some (spot_at within.Later (spot.depth - 1) spot.is_timed))
    else if b == 44 then (if spot.depth == 0 then None else Some (spot_at within.Later spot.depth spot.is_timed))
    else if is_left_out b then None
    else option_map (λ w. spot_at w spot.depth spot.is_timed) (lettered spot.within b)

-- After one more byte. Details begin with a colon, and quotes enclose texts.
abbrev pub after_in : Within → Spot → ℕ → Option Spot
after_in within.Front spot b = if b == 58 then Some (spot_at within.First spot.depth spot.is_timed) else None
after_in within.Quoted spot b =
    Some (spot_at (if b == 34 then within.Later else within.Quoted) spot.depth spot.is_timed)
after_in w spot b = in_parameter spot b

unfoldable pub after : Spot → ℕ → Option Spot
after spot b = after_in spot.within spot b

-- after all bytes of a text
abbrev pub after_all : Option Spot → List ℕ → Option Spot
after_all spot [] = spot
after_all spot (b ∷ s) = after_all (option_and_then (λ x. after x b) spot) s

abbrev pub is_quoted : Within → Bool
is_quoted within.Quoted = true
is_quoted w = false

-- whether details may end here
unfoldable pub is_closed : Spot → Bool
is_closed spot = if is_quoted spot.within then false else spot.depth == 0

-- details, and whether a timeout may be among them
abbrev pub AreDetails : ℕ → Bool → List ℕ → Type 0
AreDetails at is_timed s = (last : Spot) × (after_all (Some first_spot) s ≡ Some last) × (is_closed last ≡ true)
    × (is_timed ≡ last.is_timed)
