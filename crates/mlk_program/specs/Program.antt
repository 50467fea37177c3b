-- Routines that are linked to a program: every call has a line that accepts its actuals. Standard: routine, actuallist,
-- formallist; that all routines are known, the limits and the order of refusals are this project's own choice.
use Rattle.std.specs.Prelude.{ℕ, zero, suc, ◌≡◌, ◌<◌, ◌⊎◌, List, [], ◌∷◌, ◌++◌, length, map, flat_map}
use Rattle.std.specs.Prelude.{Contains, Bool, true, false, not, ◌&&◌, ◌||◌, nat_lt, zip}
use Rattle.std.specs.Prelude.{bytes_eq, Option, Some, None, option_and_then, option_map}
use Rattle.std.specs.List.{list_any}
use Rattle.mlk_text.specs.declared.code.Code.{Code}
use Rattle.mlk_text.specs.declared.code.Code.TheVariants.{RoutineTwice, TooMany, UnknownLabel, Arity}
use Rattle.mlk_text.specs.declared.fault.Fault.{Fault}
use Rattle.mlk_syntax.specs.declared.expr.Callee.{Callee}
use Rattle.mlk_syntax.specs.ExprTrees.{ActualTree, Given, ByRef, Missing}
use Rattle.mlk_syntax.specs.Trees.{RoutineTree, Named_routine, LineTrees, no_lines, line, HeadTree, LineHead}
use Rattle.mlk_syntax.specs.Trees.{CallTree, Called}
use Rattle.mlk_syntax.specs.Distinct.{AreDistinct}
use Rattle.mlk_program.specs.Calls.{in_commands}
use Rattle.mlk_program.specs.Entries.{name_of, formals_of, target_of, line_of_entry, lines_of, entry_count, same_entry}
use Rattle.mlk_program.specs.declared.entry.EntryId.{EntryId}

-- a call, with the index of its routine, and its line
pub record PlacedCall : Type 0 where
  pub routine : ℕ
  pub line : ℕ
  pub call : CallTree

abbrev pub placed : ℕ → HeadTree → List PlacedCall
placed r (LineHead number level end label formals commands) =
    map (λ c. record { routine = r; line = number; call = c }) (in_commands commands)

-- the calls of lines and of their blocks
abbrev pub calls_in : ℕ → LineTrees → List PlacedCall
calls_in r no_lines = []
calls_in r (line head block rest) = placed r head ++ (calls_in r block ++ calls_in r rest)

abbrev pub calls_from : ℕ → List RoutineTree → List PlacedCall
calls_from r [] = []
calls_from r (Named_routine name lines ∷ routines) = calls_in r lines ++ calls_from (suc r) routines

-- all calls, in the order of the routines, lines and columns
abbrev pub calls_of : List RoutineTree → List PlacedCall
calls_of = calls_from 0

-- Whether a line accepts an actual list: there are no more actuals than formals. A line without a formal list accepts none,
-- and a call without an actual list fits the empty formal list too.
abbrev pub takes : Option (List (List ℕ)) → Option (List ActualTree) → Bool
takes None None = true
takes None (Some given) = false
takes (Some []) None = true
takes (Some (f ∷ formals)) None = false
takes (Some formals) (Some given) = not (nat_lt (length formals) (length given))

-- the formals of the line that a call names; nothing if it names none
abbrev pub called_formals : List RoutineTree → ℕ → Callee → Option (Option (List (List ℕ)))
called_formals routines own callee =
    option_map (λ l. formals_of l.0) (option_and_then (line_of_entry routines) (target_of routines own callee))

-- why a call can't be made
abbrev pub arity_fault : Bool → Option Code
arity_fault true = None
arity_fault false = Some Arity

abbrev pub fault_with : Option (List ActualTree) → Option (Option (List (List ℕ))) → Option Code
fault_with given None = Some UnknownLabel
fault_with given (Some formals) = arity_fault (takes formals given)

abbrev pub call_fault : List RoutineTree → PlacedCall → Option Code
call_fault routines p = go p.call
  where
    go : CallTree → Option Code
    go (Called column callee given) = fault_with given (called_formals routines p.routine callee)

abbrev pub AreResolved : List RoutineTree → List PlacedCall → Type 0
AreResolved routines calls = (p : PlacedCall) → Contains calls p → call_fault routines p ≡ None

-- too many routines or entries; the limits are this project's own choice
abbrev pub AreTooMany : List RoutineTree → Type 0
AreTooMany routines = (65535 < length routines) ⊎ (1048575 < entry_count routines)

-- Routines that are a program: no two with the same name, not too many, and every call can be made.
unfoldable pub IsProgram : List RoutineTree → Type 0
IsProgram routines = AreDistinct (map name_of routines) × (AreTooMany routines → ⊥)
    × AreResolved routines (calls_of routines)

-- a fault with the given code at a place
pub record IsFaultAt (code : Code) (routine : List ℕ) (line column : ℕ) (fault : Fault) : Type 0 where
  pub coded : fault.code ≡ code
  pub worded : fault.left_out ≡ None
  pub named : fault.place.routine ≡ routine
  pub on_line : fault.place.line ≡ line
  pub placed : fault.place.column ≡ column

-- a routine is the first whose name an earlier one has
abbrev pub IsTwice : List RoutineTree → Fault → Type 0
IsTwice routines fault = (before after : List RoutineTree) × (tree : RoutineTree)
    × (routines ≡ before ++ tree ∷ after) × AreDistinct (map name_of before)
    × Contains (map name_of before) (name_of tree) × IsFaultAt RoutineTwice (name_of tree) 1 1 fault

-- a routine is the first with which there are too many
abbrev pub IsPastLimit : List RoutineTree → Fault → Type 0
IsPastLimit routines fault = (before after : List RoutineTree) × (tree : RoutineTree)
    × (routines ≡ before ++ tree ∷ after) × (AreTooMany before → ⊥) × AreTooMany (before ++ tree ∷ [])
    × IsFaultAt TooMany (name_of tree) 1 1 fault

-- the fault of a call, at its place
abbrev pub name_at : List RoutineTree → ℕ → List ℕ
name_at [] r = []
name_at (tree ∷ routines) zero = name_of tree
name_at (tree ∷ routines) (suc r) = name_at routines r

abbrev pub column_of : CallTree → ℕ
column_of (Called column callee given) = column

abbrev pub IsCallFault : List RoutineTree → PlacedCall → Fault → Type 0
IsCallFault routines p fault = (code : Code) × (call_fault routines p ≡ Some code)
    × IsFaultAt code (name_at routines p.routine) p.line (column_of p.call) fault

-- a call is the first of these that can't be made
abbrev pub IsFirstFault : List RoutineTree → List PlacedCall → Fault → Type 0
IsFirstFault routines calls fault = (before after : List PlacedCall) × (p : PlacedCall)
    × (calls ≡ before ++ p ∷ after) × AreResolved routines before × IsCallFault routines p fault

-- Why routines are not a program: first a repeated name, then a limit, then the first call that can't be made.
abbrev pub IsLinkFault : List RoutineTree → Fault → Type 0
IsLinkFault routines fault = IsTwice routines fault
    ⊎ (AreDistinct (map name_of routines) × IsPastLimit routines fault)
    ⊎ (AreDistinct (map name_of routines) × (AreTooMany routines → ⊥)
    × IsFirstFault routines (calls_of routines) fault)

-- the name that an actual passes by reference
abbrev pub lent_by : ActualTree → List (List ℕ)
lent_by (ByRef column name) = name ∷ []
lent_by (Given t) = []
lent_by Missing = []

abbrev pub is_by_reference : ActualTree → Bool
is_by_reference (ByRef column name) = true
is_by_reference (Given t) = false
is_by_reference Missing = false

-- a formal that receives a name
abbrev pub received_by : List ℕ × ActualTree → List (List ℕ)
received_by (formal, ByRef column name) = formal ∷ []
received_by (formal, Given t) = []
received_by (formal, Missing) = []

abbrev pub received_at : Option (List ℕ) → ActualTree → List (List ℕ)
received_at None a = []
received_at (Some formal) a = received_by (formal, a)

abbrev pub shared_with : Option (List ActualTree) → Option (Option (List (List ℕ))) → List (List ℕ)
shared_with None called = []
shared_with (Some given) None = flat_map lent_by given
shared_with (Some given) (Some None) = flat_map lent_by given
shared_with (Some given) (Some (Some formals)) =
    flat_map lent_by given ++ flat_map received_by (zip formals given)

-- the names that a call shares: each that it passes by reference, and each formal that receives one
abbrev pub shared_by : List RoutineTree → PlacedCall → List (List ℕ)
shared_by routines p = go p.call
  where
    go : CallTree → List (List ℕ)
    go (Called column callee given) = shared_with given (called_formals routines p.routine callee)

-- Whether some call shares a name. This project's own.
abbrev pub is_shared : List RoutineTree → List ℕ → Bool
is_shared routines name = list_any (bytes_eq name) (flat_map (shared_by routines) (calls_of routines))

-- The formals that receive names from a call, each with the entry to which it belongs.
abbrev pub received_with : Option (Option (List (List ℕ))) → Option (List ActualTree) → List (List ℕ)
received_with (Some (Some formals)) (Some given) = flat_map received_by (zip formals given)
received_with (Some (Some formals)) None = []
received_with (Some None) given = []
received_with None given = []

abbrev pub of_entry : Option EntryId → List (List ℕ) → List (EntryId × List ℕ)
of_entry None formals = []
of_entry (Some e) formals = map (λ f. (e, f)) formals

abbrev pub filled_by : List RoutineTree → PlacedCall → List (EntryId × List ℕ)
filled_by routines p = go p.call
  where
    go : CallTree → List (EntryId × List ℕ)
    go (Called column callee given) =
        of_entry (target_of routines p.routine callee) (received_with (called_formals routines p.routine callee) given)

-- Whether a formal of an entry receives a name from some call. A formal with the same name of another entry is different.
abbrev pub is_formal : EntryId → List ℕ → EntryId × List ℕ → Bool
is_formal e name filled = same_entry e filled.0 && bytes_eq name filled.1

abbrev pub is_filled : List RoutineTree → EntryId → List ℕ → Bool
is_filled routines e name = list_any (is_formal e name) (flat_map (filled_by routines) (calls_of routines))

-- the names that a call passes by reference
abbrev pub passed_with : Option (List ActualTree) → List (List ℕ)
passed_with None = []
passed_with (Some given) = flat_map lent_by given

abbrev pub passed_by : PlacedCall → List (List ℕ)
passed_by p = go p.call
  where
    go : CallTree → List (List ℕ)
    go (Called column callee given) = passed_with given

-- the calls of a line and of its block
abbrev pub calls_at : ℕ → HeadTree × LineTrees → List PlacedCall
calls_at r l = placed r l.0 ++ calls_in r l.1

-- Whether some call in the lines of an entry, those of blocks included, passes a name by reference.
abbrev pub is_passed_in : List RoutineTree → EntryId → List ℕ → Bool
is_passed_in routines e name =
    list_any (bytes_eq name) (flat_map passed_by (flat_map (calls_at e.routine) (lines_of routines e)))

-- Whether a name is shared because of the entry itself: it is a formal of the entry that receives a name from some call, or
-- `.name` is in the entry's lines. This project's own.
abbrev pub is_shared_in : List RoutineTree → EntryId → List ℕ → Bool
is_shared_in routines e name = is_filled routines e name || is_passed_in routines e name
