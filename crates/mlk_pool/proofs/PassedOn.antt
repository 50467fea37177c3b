-- What `?` passes on.
use Rattle.std.proofs.Common.{◌≡◌, Result, Ok, Err, sym, subst}
use Rattle.std.specs.Prelude.{IfErr}
use Rattle.std.specs.Result.{IsErrAnd}

pub passed-on : {A E : Type 0} (P : E → Type 0) (r : Result A E) (v : E) → IsErrAnd r (λ e. e ≡ v) → P v → IfErr r P
passed-on P (Ok x) v gives h = absurd gives
passed-on P (Err e) v gives h = subst P (sym gives) h
