-- The results of calls that may fail or run out of memory. This project's own.
use Rattle.std.specs.Prelude.{◌≡◌, Option, Some, None, Result, Ok, Err}
use Rattle.mlk_text.specs.declared.failure.Failure.{Failure}
use Rattle.mlk_text.specs.declared.failure.Failure.TheVariants.{OutOfMemory, Refused}

-- the second failure is the first with another reason
abbrev pub IsTurned : {E F : Type 0} → (E → F → Type 0) → Failure E → Failure F → Type 0
IsTurned R OutOfMemory g = g ≡ OutOfMemory
IsTurned {E} {F} R (Refused e) g = (f : F) × R e f × (g ≡ Refused f)

-- it has a reason
abbrev pub IsRefused : {E : Type 0} → Failure E → Type 0
IsRefused OutOfMemory = ⊥
IsRefused (Refused e) = Unit {0}

-- the property of the reason, unless memory ran out
abbrev pub IfRefused : {E : Type 0} → Failure E → (E → Type 0) → Type 0
IfRefused OutOfMemory Is = Unit {0}
IfRefused (Refused e) Is = Is e

-- both are out of memory, or neither is
abbrev pub IsLike : {E F : Type 0} → Failure E → Failure F → Type 0
IsLike OutOfMemory OutOfMemory = Unit {0}
IsLike (Refused e) (Refused f) = Unit {0}
IsLike g h = ⊥

-- out of memory says nothing; a reason is the one of the definition
abbrev pub FailsAs : {Y E : Type 0} → Failure E → Result Y E → Type 0
FailsAs OutOfMemory answer = Unit {0}
FailsAs (Refused e) answer = answer ≡ Err e

-- A result is that of the definition, and so is a reason.
abbrev pub Answers : {X Y E : Type 0} → (X → Y) → Result X (Failure E) → Result Y E → Type 0
Answers view (Ok x) answer = answer ≡ Ok (view x)
Answers view (Err e) answer = FailsAs e answer

-- out of memory says nothing; any reason says that there is nothing
abbrev pub FailsOn : {Y E : Type 0} → Failure E → Option Y → Type 0
FailsOn OutOfMemory found = Unit {0}
FailsOn (Refused e) found = found ≡ None

-- What is read is that of the definition; if the definition finds nothing, any reason may be given.
abbrev pub Reads : {X Y E : Type 0} → (X → Y) → Result X (Failure E) → Option Y → Type 0
Reads view (Ok x) found = found ≡ Some (view x)
Reads view (Err e) found = FailsOn e found
