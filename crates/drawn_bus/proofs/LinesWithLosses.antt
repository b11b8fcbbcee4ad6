-- Which links pass where lines have losses more, and of which links the losses are that a test leaves.
use Rattle.std.proofs.Common.{◌≡◌, ℕ, List, [], ◌∷◌, Bool, true, false, cond, not, ◌&&◌, ◌||◌, ◌==◌, filter, refl, sym, ◌∙◌, ap}
use Rattle.std.specs.List.{list_any}
use Rattle.std.proofs.lemmas.Bool.{and_parts, eqb-true}
use Rattle.std.proofs.lemmas.List.Folds.{list_any-append}
use Rattle.lwb_base.proofs.Truths.{and_false}
use Rattle.link_trace.specs.declared.lines.CutLine.{CutLine}
use Rattle.link_trace.specs.declared.lines.LinkLine.{LinkLine}
use Rattle.link_trace.specs.declared.lines.LoseLine.{LoseLine}
use Rattle.link_trace.specs.Passes.{Lines, cut_off, is_link, is_loss, passes}
use Rattle.drawn_bus.specs.FloodLosses.{line_at}
use Rattle.drawn_bus.specs.KeptLosses.{AddsLosses}

-- a line that names a link in a step is the one line that does
pub named_so : (f j k u v : ℕ) (l : LoseLine) → is_loss f j k u v l ≡ true → l ≡ line_at f j k u v
named_so f j k u v l is =
    let to = and_parts _ (l.to == v) is in
    let from = and_parts _ (l.from == u) to.0 in
    let step = and_parts _ (l.step == k) from.0 in
    let slot = and_parts (l.frame == f) (l.slot == j) step.0 in
    ap (λ (n : ℕ). line_at n l.slot l.step l.from l.to) (eqb-true l.frame f slot.0)
    ∙ ap (λ (n : ℕ). line_at f n l.step l.from l.to) (eqb-true l.slot j slot.1)
    ∙ ap (λ (n : ℕ). line_at f j n l.from l.to) (eqb-true l.step k step.1)
    ∙ ap (λ (n : ℕ). line_at f j k n l.to) (eqb-true l.from u from.1)
    ∙ ap (λ (n : ℕ). line_at f j k u n) (eqb-true l.to v to.1)

-- so a test leaves it if it was there and passes
pub left_by_test : (keep : LoseLine → Bool) (f j k u v : ℕ) (ls : List LoseLine)
    → list_any (is_loss f j k u v) (filter keep ls) ≡ (list_any (is_loss f j k u v) ls && keep (line_at f j k u v))
left_by_test keep f j k u v [] = refl
left_by_test keep f j k u v (l ∷ ls) = by_line (named l) refl (keep l) refl (left_by_test keep f j k u v ls)
  where
    named : LoseLine → Bool
    named = is_loss f j k u v

    kept : Bool
    kept = keep (line_at f j k u v)

    by_line : (n : Bool) → named l ≡ n → (c : Bool) → keep l ≡ c → list_any named (filter keep ls) ≡ (list_any named ls && kept)
        → list_any named (cond c (l ∷ filter keep ls) (filter keep ls)) ≡ ((n || list_any named ls) && kept)
    by_line true is true keeps rest =
        ap (λ (b : Bool). b || list_any named (filter keep ls)) is ∙ sym keeps ∙ ap keep (named_so f j k u v l is)
    by_line true is false keeps rest =
        let not_kept : kept ≡ false = ap keep (sym (named_so f j k u v l is)) ∙ keeps in
        rest ∙ ap (λ (b : Bool). list_any named ls && b) not_kept ∙ and_false (list_any named ls) ∙ sym not_kept
    by_line false is true keeps rest = ap (λ (b : Bool). b || list_any named (filter keep ls)) is ∙ rest
    by_line false is false keeps rest = rest

one_more : (links losses more from to : Bool)
    → (links && not (losses || more) && not from && not to) ≡ ((links && not losses && not from && not to) && not more)
one_more false losses more from to = refl
one_more true true more from to = refl
one_more true false true from to = sym (and_false (not from && not to))
one_more true false false from to = and_true (not from && not to)
  where
    and_true : (b : Bool) → b ≡ (b && true)
    and_true true = refl
    and_true false = refl

-- a link passes if it did before and none of the losses names it
pub passes_fewer : (s t : Lines) (more : List LoseLine) → AddsLosses s t more → (f j k u v : ℕ)
    → passes t f j k u v ≡ (passes s f j k u v && not (list_any (is_loss f j k u v) more))
passes_fewer s t more adds f j k u v =
    let named : LoseLine → Bool = is_loss f j k u v in
    ap (λ (ls : List LinkLine).
    list_any (is_link u v) ls && not (list_any named t.losses) && not (cut_off t.cuts f j k u) && not (cut_off t.cuts f j k v)) adds.links_stay
    ∙ ap (λ (cs : List CutLine).
    list_any (is_link u v) s.links && not (list_any named t.losses) && not (cut_off cs f j k u) && not (cut_off cs f j k v)) adds.cuts_stay
    ∙ ap (λ (b : Bool). list_any (is_link u v) s.links && not b && not (cut_off s.cuts f j k u) && not (cut_off s.cuts f j k v))
    (adds.same_losses named ∙ list_any-append named s.losses more)
    ∙ one_more (list_any (is_link u v) s.links) (list_any named s.losses) (list_any named more) (cut_off s.cuts f j k u) (cut_off s.cuts f j k v)
