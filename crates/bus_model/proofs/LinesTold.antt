-- The lines of a frame, given one after another.
use Rattle.std.proofs.Common.{◌≡◌, ◌<◌, ◌≤◌, ◌+◌, ◌++◌, ◌∷◌, ◌==◌, ◌&&◌, [], ℕ, zero, suc, List, Bool, true, false, inl, inr, if◌then◌else◌, length}
use Rattle.std.proofs.Common.{map, take, drop, get_or, set, filter, fold, option_to_list, refl, sym, ◌∙◌, ap, arith, append-nil}
use Rattle.std.proofs.Common.{take-append-drop, length-drop}
use Rattle.std.specs.List.{AllPairs, enumerate_from}
use Rattle.std.proofs.lemmas.Bool.{cases_lt, eq-eqb, ne_eqb, and_right}
use Rattle.std.proofs.lemmas.List.{take_more, length-take-le, get_or-take, get_or-drop, get_or-map}
use Rattle.std.proofs.lemmas.List.Elements.{filter-append}
use Rattle.std.proofs.lemmas.List.FromFn.{length-enumerate_from, get_or-enumerate_from}
use Rattle.std.proofs.lemmas.List.Sums.{fold_push}
use Rattle.lwb_base.proofs.Lists.{filter_map_more}
use Rattle.scenario_text.specs.ScenarioParts.{ScenarioParts}
use Rattle.scenario_text.specs.ScenarioFacts.{turned, turned_by}
use Rattle.scenario_text.specs.declared.script.ScriptLine.{ScriptLine}
use Rattle.bus_rules.specs.States.{State}
use Rattle.bus_terms.specs.Bus.{before_frame, state_at}
use Rattle.bus_terms.specs.FloodOfText.{ids}
use Rattle.bus_terms.specs.Packets.{put_at, put_by}
use Rattle.bus_terms.specs.ScriptedStates.{power, state_after_line}
use Rattle.plain_bus.specs.BusNodes.{BusNode, bus_node}
use Rattle.bus_model.specs.FrameNodes.{HavePower, CountsLinesBefore, puts_to, nodes_with, node_after_line, told_at}
use Rattle.bus_terms.proofs.PowerKept.{act_power}

-- a filter that keeps nothing
pub none_kept : {X : Type 0} (p : X → Bool) (xs : List X) → ((i : ℕ) (d : X) → i < length xs → p (get_or xs i d) ≡ false) → filter p xs ≡ []
none_kept p [] none = refl
none_kept p (x ∷ xs) none =
    ap (λ (b : Bool). if b then x ∷ filter p xs else filter p xs) (none 0 x (omega arith))
    ∙ none_kept p xs (λ i d below. none (suc i) d (omega (arith, below)))

-- an element of a mapped list that is changed in place
same_all : {X : Type 0} (g h : ℕ → X) (xs : List ℕ) → ((k : ℕ) → k < length xs → g (get_or xs k 0) ≡ h (get_or xs k 0)) → map g xs ≡ map h xs
same_all g h [] same = refl
same_all g h (x ∷ xs) same =
    ap (λ (y : _). y ∷ map g xs) (same 0 (omega arith)) ∙ ap (λ (l : List _). h x ∷ l) (same_all g h xs (λ k below. same (suc k) (omega (arith, below))))

set_mapped : {X : Type 0} (g h : ℕ → X) (xs : List ℕ) (i : ℕ) → i < length xs → ((k : ℕ) → k < length xs → (k ≡ i → ⊥) → g (get_or xs k 0) ≡ h (get_or xs k 0))
    → set (map g xs) i (h (get_or xs i 0)) ≡ map h xs
set_mapped g h [] i below same = absurd (omega (arith, below))
set_mapped g h (x ∷ xs) zero below same =
    ap (λ (l : List _). h x ∷ l) (same_all g h xs (λ k near. same (suc k) (omega (arith, near)) (λ is. omega (arith, is))))
set_mapped g h (x ∷ xs) (suc i) below same =
    ap (λ (y : _). y ∷ set (map g xs) i (h (get_or xs i 0))) (same 0 (omega arith) (λ is. omega (arith, is)))
    ∙ ap (λ (l : List _). h x ∷ l)
    (set_mapped g h xs i (omega (arith, below)) (λ k near other. same (suc k) (omega (arith, near)) (λ is. other (omega (arith, is)))))

-- one line more of all that was given
abbrev pub own : ℕ → ℕ → ScriptLine → Bool
own f v l = (l.node == v) && (l.frame == f)

and_true : (b c : Bool) → c ≡ true → (b && c) ≡ b
and_true true c is = is
and_true false c is = refl

module _ (s : ScenarioParts) (f : ℕ) where
  told_more : (n : ℕ) (l : ScriptLine) → n < length s.script → l ≡ get_or s.script n l → l.frame ≡ f → (v : ℕ)
      → told_at s f (n + 1) v ≡ (if l.node == v then state_after_line (told_at s f n v) l else told_at s f n v)
  told_more n l below at is v =
      ap (λ (ls : List ScriptLine). fold state_after_line (before_frame s f v) (filter (own f v) ls))
      (take_more s.script n l below ∙ ap (λ (y : ScriptLine). take n s.script ++ y ∷ []) (sym at))
      ∙ ap (fold state_after_line (before_frame s f v)) (filter-append (own f v) (take n s.script) (l ∷ []))
      ∙ ap (λ (b : Bool). fold state_after_line (before_frame s f v) (filter (own f v) (take n s.script) ++ (if b then l ∷ [] else [])))
      (and_true (l.node == v) (l.frame == f) (eq-eqb l.frame f is))
      ∙ by_node (l.node == v)
    where
      by_node : (b : Bool) → fold state_after_line (before_frame s f v) (filter (own f v) (take n s.script) ++ (if b then l ∷ [] else []))
          ≡ (if b then state_after_line (told_at s f n v) l else told_at s f n v)
      by_node true = fold_push state_after_line (before_frame s f v) (filter (own f v) (take n s.script)) l
      by_node false = ap (fold state_after_line (before_frame s f v)) (append-nil (filter (own f v) (take n s.script)))

  other_frame : (v k : ℕ) (l : ScriptLine) → (l.frame ≡ f → ⊥) → own f v l ≡ false
  other_frame v k l other = and_right (l.node == v) (l.frame == f) (ne_eqb l.frame f other)

  -- before the first line of the frame
  pub none_told : (n : ℕ) → CountsLinesBefore s.script f n → (v : ℕ) → told_at s f n v ≡ before_frame s f v
  none_told n cut v = ap (fold state_after_line (before_frame s f v)) (none_kept (own f v) (take n s.script) (λ i d below.
      (let near : i < n = within i below in
      other_frame v i (get_or (take n s.script) i d)
      (λ is. (let before = cut.before i d near in omega (arith, before, is, ap (λ (l : ScriptLine). l.frame) (get_or-take n s.script i d near)))))))
    where
      within : (i : ℕ) → i < length (take n s.script) → i < n
      within i below = omega (arith, below, length-take-le n s.script cut.within)

  -- and after the last one
  pub all_told : (n : ℕ) → ((i : ℕ) (d : ScriptLine) → n ≤ i → i < length s.script → f < (get_or s.script i d).frame) → (v : ℕ)
      → told_at s f n v ≡ state_at s f v
  all_told n later v =
      ap (fold state_after_line (before_frame s f v)) (sym (
      ap (filter (own f v)) (sym (take-append-drop n s.script))
      ∙ filter-append (own f v) (take n s.script) (drop n s.script)
      ∙ ap (λ (l : List ScriptLine). filter (own f v) (take n s.script) ++ l) (none_kept (own f v) (drop n s.script) (λ i d below.
      other_frame v i (get_or (drop n s.script) i d) (λ is. (let after = later (n + i) d (omega arith) (omega (arith, below, length-drop n s.script)) in
      omega (arith, after, is, ap (λ (l : ScriptLine). l.frame) (get_or-drop n s.script i d))))))
      ∙ append-nil (filter (own f v) (take n s.script))))

  -- the nodes after a line
  pub node_told : (ranks : ℕ → ℕ) (n : ℕ) (l : ScriptLine) → n < length s.script → l ≡ get_or s.script n l → l.frame ≡ f → AllPairs (λ a b. a < b) (ids s.nodes)
      → (i : ℕ) → i < length (ids s.nodes) → get_or (ids s.nodes) i 0 ≡ l.node → (d : BusNode)
      → set (nodes_with s ranks (told_at s f n)) i (node_after_line l (get_or (nodes_with s ranks (told_at s f n)) i d))
      ≡ nodes_with s ranks (told_at s f (n + 1))
  node_told ranks n l below at is ascending i near here d =
      let g = bus_node s ranks (told_at s f n) in
      let h = bus_node s ranks (told_at s f (n + 1)) in
      let v : ℕ = get_or (ids s.nodes) i 0 in
      let state : told_at s f (n + 1) v ≡ state_after_line (told_at s f n v) l =
      told_more n l below at is v ∙ ap (λ (b : Bool). if b then state_after_line (told_at s f n v) l else told_at s f n v) (eq-eqb l.node v (sym here)) in
      ap (λ (x : BusNode). set (nodes_with s ranks (told_at s f n)) i (node_after_line l x)) (get_or-map g (ids s.nodes) i 0 d near)
      ∙ ap (λ (x : State). set (nodes_with s ranks (told_at s f n)) i (record (g v) { state = x })) (sym state)
      ∙ set_mapped g h (ids s.nodes) i near (λ k there other.
      (let u : ℕ = get_or (ids s.nodes) k 0 in
      ap (λ (x : State). record (g u) { state = x }) (sym (told_more n l below at is u
      ∙ ap (λ (b : Bool). if b then state_after_line (told_at s f n u) l else told_at s f n u)
      (ne_eqb l.node u (λ same. differ k there other (here ∙ same)))))))
    where
      differ : (k : ℕ) → k < length (ids s.nodes) → (k ≡ i → ⊥) → get_or (ids s.nodes) i 0 ≡ get_or (ids s.nodes) k 0 → ⊥
      differ k there other same = elim (cases_lt k i) [
        | inl before ↦ omega (arith, same, ascending k i 0 before near)
        | inr not_before ↦ elim (cases_lt i k) [
          | inl after ↦ omega (arith, same, ascending i k 0 after there)
          | inr not_after ↦ other (omega (arith, not_before, not_after))
        ]
      ]

  -- its power
  pub power_told : (n : ℕ) (l : ScriptLine) → n < length s.script → l ≡ get_or s.script n l → l.frame ≡ f → HavePower s (told_at s f n) n
      → HavePower s (told_at s f (n + 1)) (n + 1)
  power_told n l below at is have v =
      ap power (told_more n l below at is v) ∙ by_node (l.node == v)
      ∙ sym (ap (turned v (false, 0)) (take_more s.script n l below ∙ ap (λ (y : ScriptLine). take n s.script ++ y ∷ []) (sym at))
      ∙ turned_more v (false, 0) (take n s.script) l)
    where
      turned_more : (v : ℕ) (b : Bool × ℕ) (ls : List ScriptLine) (l : ScriptLine)
          → turned v b (ls ++ l ∷ []) ≡ (if l.node == v then turned_by l.act (turned v b ls) else turned v b ls)
      turned_more v b [] l = refl
      turned_more v b (x ∷ ls) l = turned_more v (if x.node == v then turned_by x.act b else b) ls l

      by_node : (b : Bool) → power (if b then state_after_line (told_at s f n v) l else told_at s f n v)
          ≡ (if b then turned_by l.act (turned v (false, 0) (take n s.script)) else turned v (false, 0) (take n s.script))
      by_node true = act_power l.act (told_at s f n v) ∙ ap (turned_by l.act) (have v)
      by_node false = have v

  -- and what is put
  pub put_more : (n : ℕ) (l : ScriptLine) → n < length s.script → l ≡ get_or s.script n l → l.frame ≡ f
      → puts_to s (n + 1) ≡ puts_to s n ++ option_to_list (put_by l l.act (told_at s f n l.node))
  put_more n l below at is =
      let lines : List (ℕ × ScriptLine) = enumerate_from 0 s.script in
      let near : n < length lines = omega (arith, below, length-enumerate_from 0 s.script) in
      let place : 0 + n ≡ n = omega arith in
      let line : get_or lines n (n, l) ≡ (n, l) =
      get_or-enumerate_from 0 s.script n (n, l) below ∙ ap {B = ℕ × ScriptLine} (λ k. (k, get_or s.script n l)) place
      ∙ ap {B = ℕ × ScriptLine} (λ y. (n, y)) (sym at) in
      filter_map_more {X = ℕ × ScriptLine} (put_at s) lines n (n, l) near (sym line)
      ∙ ap (λ (k : ℕ). puts_to s n ++ option_to_list (put_by l l.act
      (fold state_after_line (before_frame s k l.node) (filter (λ m. (m.node == l.node) && (m.frame == k)) (take n s.script))))) is
