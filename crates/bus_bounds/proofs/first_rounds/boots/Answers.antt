use Rattle.std.proofs.Common.{◌≡◌, ◌+◌, ℕ, ◌++◌, ◌∷◌, [], List, Bool, true, false, filter, map, if◌then◌else◌, refl, sym, ◌∙◌, ap}
use Rattle.std.proofs.lemmas.List.{map-append}
use Rattle.std.proofs.lemmas.List.Elements.{filter-append}
use Rattle.std.specs.List.{range_with_len}
use Rattle.lwb_base.proofs.Lists.{range_next}
use Rattle.bus_bounds.specs.BoundFindings.{first_finding}
use Rattle.bus_bounds.specs.PowerLines.{boots_in}
use Rattle.bus_bounds.specs.declared.finding.Finding.{Finding}
use Rattle.bus_bounds.proofs.first_rounds.boots.Goals as goal

pub loop-frame-preserved : goal.loop-frame-preserved
loop-frame-preserved c =
    let l = c.loop-frame in
    let p = boots_in c.args.lines.now c.args.host in
    let g = first_finding c.args.lines.now c.args.run c.args.host in
    c.in_ok-push_boot.ensures
    ∙ ap (λ (xs : List Finding). xs ++ (if p l.frame then g l.frame ∷ [] else [])) l.invariant
    ∙ sym (one_frame p g l.frame)
  where
    kept : (b : Bool) (g : ℕ → Finding) (k : ℕ) → map g (if b then k ∷ [] else []) ≡ (if b then g k ∷ [] else [])
    kept true g k = refl
    kept false g k = refl

    one_frame : (p : ℕ → Bool) (g : ℕ → Finding) (n : ℕ)
        → map g (filter p (range_with_len 0 (n + 1))) ≡ map g (filter p (range_with_len 0 n)) ++ (if p n then g n ∷ [] else [])
    one_frame p g n =
        ap (λ (ks : List ℕ). map g (filter p ks)) (range_next n)
        ∙ ap (map g) (filter-append p (range_with_len 0 n) (n ∷ []))
        ∙ map-append g (filter p (range_with_len 0 n)) (filter p (n ∷ []))
        ∙ ap (λ (xs : List Finding). map g (filter p (range_with_len 0 n)) ++ xs) (kept (p n) g n)
