-- The masks of the links of a node on one side, less those that are lost and the nodes that are cut off, tell which links pass.
use Rattle.std.proofs.Common.{◌≡◌, ℕ, ◌-◌, min, List, [], Bool, true, false, not, ◌&&◌, ◌==◌, refl, sym, ◌∙◌, ap, arith}
use Rattle.std.proofs.lemmas.Bool.Decides.{nat_tests}
use Rattle.std.specs.Int.{bit_at}
use Rattle.std.specs.List.{filter, list_any}
use Rattle.link_trace.specs.declared.lines.LoseLine.{LoseLine}
use Rattle.link_trace.specs.declared.lines.CutLine.{CutLine}
use Rattle.link_trace.specs.declared.sides.Side.{Side}
use Rattle.link_trace.specs.declared.sides.Side.TheVariants.{To, From}
use Rattle.link_trace.specs.Masks.{IsMask}
use Rattle.link_trace.specs.Passes.{Lines, cuts_by, cut_off}
use Rattle.link_trace.specs.Sealed.{Traced}
use Rattle.link_trace.specs.Sides.{is_linked, is_lost, own_of, passes_on}
use Rattle.link_trace.proofs.MaskBits.{empty_mask, same_tests, left_out}
use Rattle.link_trace.proofs.Together.{one_of_these}

swapped : (x c d : Bool) → (x && c && d) ≡ (x && d && c)
swapped x c d = grind (arith, nat_tests)

-- which links pass, with the node itself last
tells_passing : (t : Lines) (f j k : ℕ) (side : Side) (v : ℕ)
    → (is_linked side t.links v && not (is_lost f j k side t.losses v) && not (cut_off t.cuts f j k v) && not (cut_off t.cuts f j k (own_of side)))
    ≡ passes_on t f j k side v
tells_passing t f j k (To u) v = refl
tells_passing t f j k (From u) v =
    swapped (is_linked (From u) t.links v && not (is_lost f j k (From u) t.losses v)) (not (cut_off t.cuts f j k v)) (not (cut_off t.cuts f j k u))

module _ (s : Traced) (f j k : ℕ) (side : Side) (a : ℕ) (a_is : IsMask (λ v. is_linked side s.lines.links v) s.nodes a) where
  abbrev t : Lines
  t = s.lines

  abbrev linked : ℕ → Bool
  linked v = is_linked side s.lines.links v

  abbrev lost : ℕ → Bool
  lost v = is_lost f j k side s.lines.losses v

  abbrev passing : ℕ → Bool
  passing v = passes_on s.lines f j k side v

  -- where there are links alone
  pub all_passing : s.lines.losses ≡ [] → s.lines.cuts ≡ [] → IsMask passing s.nodes a
  all_passing no_losses no_cuts = same_tests s.nodes linked passing a each a_is
    where
      left : (x : Bool) → x ≡ (x && not false && not false && not false)
      left true = refl
      left false = refl

      each : (v : ℕ) → linked v ≡ passing v
      each v =
          left (linked v)
          ∙ ap (λ (ls : List LoseLine). linked v && not (is_lost f j k side ls v) && not false && not false) (sym no_losses)
          ∙ ap (λ (cs : List CutLine). linked v && not (lost v) && not (cut_off cs f j k v) && not (cut_off cs f j k (own_of side))) (sym no_cuts)
          ∙ tells_passing t f j k side v

  -- no link of a node that is cut off passes
  pub none_passing : (found : List CutLine) → found ≡ filter (cuts_by f j k) s.lines.cuts → list_any (λ (l : CutLine). l.node == own_of side) found ≡ true
      → IsMask passing s.nodes 0
  none_passing found found_is is = same_tests s.nodes (λ v. false) passing 0 each (empty_mask s.nodes)
    where
      cut : cut_off s.lines.cuts f j k (own_of side) ≡ true
      cut = sym (one_of_these f j k (own_of side) s.lines.cuts)
          ∙ ap (λ (ls : List CutLine). list_any (λ (l : CutLine). l.node == own_of side) ls) (sym found_is) ∙ is

      nothing : (x d : Bool) → d ≡ true → false ≡ (x && not d)
      nothing x d is = grind (arith, nat_tests)

      each : (v : ℕ) → false ≡ passing v
      each v = nothing (linked v && not (lost v) && not (cut_off s.lines.cuts f j k v)) (cut_off s.lines.cuts f j k (own_of side)) cut
          ∙ tells_passing t f j k side v

  -- and what lines lose
  module _ (b : ℕ) (b_is : IsMask lost s.nodes b) (d : ℕ) (d_bits : (i : ℕ) → bit_at d i ≡ min (bit_at a i) (1 - bit_at b i)) where
    kept : IsMask (λ v. linked v && not (lost v)) s.nodes d
    kept = left_out s.nodes linked lost a b d d_bits a_is b_is

    -- where no node is cut off
    pub uncut_passing : s.lines.cuts ≡ [] → IsMask passing s.nodes d
    uncut_passing no_cuts = same_tests s.nodes (λ v. linked v && not (lost v)) passing d each kept
      where
        left : (x : Bool) → x ≡ (x && not false && not false)
        left true = refl
        left false = refl

        each : (v : ℕ) → (linked v && not (lost v)) ≡ passing v
        each v =
            left (linked v && not (lost v))
            ∙ ap (λ (cs : List CutLine). linked v && not (lost v) && not (cut_off cs f j k v) && not (cut_off cs f j k (own_of side))) (sym no_cuts)
            ∙ tells_passing t f j k side v

    -- where the node is not cut off
    pub left_passing : (found : List CutLine) → found ≡ filter (cuts_by f j k) s.lines.cuts
        → list_any (λ (l : CutLine). l.node == own_of side) found ≡ false → (c : ℕ)
        → IsMask (λ v. list_any (λ (l : CutLine). l.node == v) found) s.nodes c
        → (e : ℕ) → ((i : ℕ) → bit_at e i ≡ min (bit_at d i) (1 - bit_at c i)) → IsMask passing s.nodes e
    left_passing found found_is none c c_is e e_bits =
        same_tests s.nodes (λ v. linked v && not (lost v) && not (cut v)) passing e each
        (left_out s.nodes (λ v. linked v && not (lost v)) cut d c e e_bits kept c_is)
      where
        cut : ℕ → Bool
        cut v = list_any (λ (l : CutLine). l.node == v) found

        cut_is : (v : ℕ) → cut v ≡ cut_off s.lines.cuts f j k v
        cut_is v = ap (λ (ls : List CutLine). list_any (λ (l : CutLine). l.node == v) ls) found_is ∙ one_of_these f j k v s.lines.cuts

        left : (x d : Bool) → d ≡ false → x ≡ (x && not d)
        left x d is = grind (arith, nat_tests)

        each : (v : ℕ) → (linked v && not (lost v) && not (cut v)) ≡ passing v
        each v =
            ap (λ (b : Bool). linked v && not (lost v) && not b) (cut_is v)
            ∙ left (linked v && not (lost v) && not (cut_off t.cuts f j k v)) (cut_off t.cuts f j k (own_of side)) (sym (cut_is (own_of side)) ∙ none)
            ∙ tells_passing t f j k side v
