-- The last of some points.
use Rattle.std.proofs.Common.{◌≡◌, ◌-◌, List, [], ◌∷◌, ◌++◌, length, take, drop, ap, sym, ◌∙◌, subst, append_assoc, length-append, arith}
use Rattle.std.proofs.Math.Seq.{drop-append_seam}
use Rattle.std.proofs.lemmas.List.{take-append-drop}
use Rattle.mlk_cert_parts.specs.declared.block.Point.{Point}
use Rattle.mlk_walk_state.specs.Ends.{IsEnd}

pub end_of : (front ahead : List Point) → IsEnd (front ++ ahead) ahead
end_of front ahead =
    let e : length (front ++ ahead) - length ahead ≡ length front = omega (arith, length-append front ahead) in
    ap (λ n. drop n (front ++ ahead)) e ∙ drop-append_seam front ahead

-- the points up to and including it
abbrev pub before_end : List Point → List Point → List Point
before_end points ahead = take (length points - length ahead) points

pub end_parts : (points ahead : List Point) → IsEnd points ahead → points ≡ before_end points ahead ++ ahead
end_parts points ahead h =
    sym (take-append-drop (length points - length ahead) points) ∙ ap (λ z. before_end points ahead ++ z) h

pub end_whole : (points : List Point) → IsEnd points points
end_whole points = end_of [] points

pub end_of_end : (points ahead last : List Point) → IsEnd points ahead → IsEnd ahead last → IsEnd points last
end_of_end points ahead last h g =
    let f : points ≡ (before_end points ahead ++ before_end ahead last) ++ last =
    end_parts points ahead h ∙ ap (λ z. before_end points ahead ++ z) (end_parts ahead last g)
    ∙ sym (append_assoc (before_end points ahead) (before_end ahead last) last) in
    subst (λ z. IsEnd z last) (sym f) (end_of (before_end points ahead ++ before_end ahead last) last)

pub end_later : (points : List Point) (p : Point) (ps : List Point) → IsEnd points (p ∷ ps) → IsEnd points ps
end_later points p ps h = end_of_end points (p ∷ ps) ps h (end_of (p ∷ []) ps)
