-- What a `Result` is, by its test.
use Rattle.std.proofs.Common.{◌≡◌, false, refl, Result, Ok, Err}
use Rattle.std.specs.Result.{is_ok}
use Rattle.std.proofs.lemmas.Bool.{false≢true}

pub not_ok : {T E : Type 0} (r : Result T E) → false ≡ is_ok r → (e : E) × (r ≡ Err e)
not_ok (Ok x) h = absurd (false≢true h)
not_ok (Err e) h = (e, refl)
