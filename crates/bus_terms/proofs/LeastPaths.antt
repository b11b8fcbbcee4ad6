-- With one initiator a node accepts in the step of the shortest relay path to it.
use Rattle.std.proofs.Common.{◌≡◌, ℕ, zero, suc, ◌<◌, ◌≤◌, ◌↔◌, List, [], ◌∷◌, true, false, inl, inr}
use Rattle.std.proofs.Common.{Option, Some, None, refl, sym, ◌∙◌, ap, subst, arith, length}
use Rattle.std.proofs.lemmas.Bool.{or_from, ne_eqb}
use Rattle.bus_terms.specs.Flooding.{Setting, moment, has, Hears, Accepts, STEPS}
use Rattle.bus_terms.proofs.OneInitiator.{Reached, last, sender, hears_reached, has_one, IsFirst}
use Rattle.bus_terms.specs.RelayPaths.{IsPath, HasPath, IsLeast}
use Rattle.bus_terms.proofs.Options.{inspect}
use Rattle.bus_terms.proofs.FirstHearings.{first_hearing, none_yet, heard_in_time}

module _ (s : Setting) (start : ℕ) where
  path_reached : (us : List ℕ) (v : ℕ) → IsPath s start (v ∷ us) → Reached s start (length us) v
  path_reached [] v is = is
  path_reached (u ∷ us) v (path, sends, passes, quiet, few) = (u, path_reached us u path, sends, passes, quiet, few)

  longer : (k v u : ℕ) → HasPath s start k u → (moment s k).sends u ≡ Some start → s.passes k u v ≡ true → (moment s k).sends v ≡ None
      → (moment s k).times v < s.limit → HasPath s start (suc k) v
  longer k v u path sends passes quiet few = by_size (length path.nodes) refl
    where
      by_size : (n : ℕ) → length path.nodes ≡ n → HasPath s start (suc k) v
      by_size n at =
          let is = path.size in
          record {
            nodes = u ∷ path.nodes;
            size = ap (λ (i : ℕ). suc i) is;
            path = (
              path.path,
              subst (λ (i : ℕ). (moment s i).sends u ≡ Some start) (sym is) sends,
              subst (λ (i : ℕ). s.passes i u v ≡ true) (sym is) passes,
              subst (λ (i : ℕ). (moment s i).sends v ≡ None) (sym is) quiet,
              subst (λ (i : ℕ). (moment s i).times v < s.limit) (sym is) few,
            );
          }

  reached_path : (k v : ℕ) → Reached s start k v → HasPath s start k v
  reached_path zero v is = record { nodes = []; size = refl; path = is }
  reached_path (suc k) v (u, path, sends, passes, quiet, few) = longer k v u (reached_path k u path) sends passes quiet few

  pub path_is_reached : (k v : ℕ) → HasPath s start k v → Reached s start k v
  path_is_reached k v is = subst (λ (i : ℕ). Reached s start i v) is.size (path_reached is.nodes v is.path)

  module _ (alone : s.initiators ≡ start ∷ []) (here : has s.everyone start ≡ true) where
    pub hears_path : (k v : ℕ) → has s.everyone v ≡ true → Hears s v k start ↔ HasPath s start (suc k) v
    hears_path k v there = (
      λ hears. (let l = last s start alone k v hears in longer k v l.0 (reached_path k l.0 (sender s start alone k l.0 l.1)) l.1 l.2 l.3 l.4),
      λ path. hears_reached s start alone here k v there (path_is_reached (suc k) v path),
    )

    -- a path with no link leads to the initiator
    no_links : (v : ℕ) → (v ≡ start → ⊥) → HasPath s start 0 v → ⊥
    no_links v other path = other (path_is_reached 0 v path)

    listens : (v : ℕ) → (v ≡ start → ⊥) → has s.initiators v ≡ false
    listens v other = ap (λ (l : List ℕ). has l v) alone ∙ or_from _ _ (ne_eqb start v (λ is. other (sym is))) refl

    pub accepts_least : (k v : ℕ) → has s.everyone v ≡ true → (v ≡ start → ⊥) → Accepts s v start k ↔ IsLeast s start (suc k) v
    accepts_least k v there other = (to, from)
      where
        no_shorter : ((i : ℕ) → i < k → Hears s v i start → ⊥) → (m : ℕ) → m < suc k → HasPath s start m v → ⊥
        no_shorter first zero less path = no_links v other path
        no_shorter first (suc i) less path = first i (omega arith) ((hears_path i v there).1 path)

        in_time : (k v o : ℕ) → Hears s v k o → suc k ≤ STEPS
        in_time k v o is = let less = heard_in_time s k v o is in omega arith

        to : Accepts s v start k → IsLeast s start (suc k) v
        to a = record { range = (omega arith, in_time k v start a.hears); path = (hears_path k v there).0 a.hears; shorter = no_shorter a.first }

        from : IsLeast s start (suc k) v → Accepts s v start k
        from l = record {
          here = there;
          listens = listens v other;
          hears = (hears_path k v there).1 l.path;
          first = λ i less heard. l.shorter (suc i) (omega arith) ((hears_path i v there).0 heard);
        }

    -- and it accepts where there is a path at all
    pub accepts_some : (v : ℕ) → has s.everyone v ≡ true → (v ≡ start → ⊥) → ((k : ℕ) × Accepts s v start k) ↔ ((m : ℕ) × HasPath s start m v)
    accepts_some v there other = (λ a. (suc a.0, (hears_path a.0 v there).0 a.1.hears), λ p. from p.0 p.1)
      where
        first_of : (k : ℕ) → Hears s v k start → (i : ℕ) × Accepts s v start i
        first_of k heard =
            elim (inspect ((moment s (suc k)).heard v)) [
              | inl none ↦ absurd (none_yet s (suc k) v none k (omega arith) start heard)
              | inr some ↦
                  (let h = some.0 in
                  let first = first_hearing s (suc k) v h some.1 in
                  let one : h.0 ≡ start = subst_first h some.1 in (
                    h.1,
                    record {
                      here = there;
                      listens = listens v other;
                      hears = first.hears ∙ ap (λ (p : ℕ). Some p) one;
                      first = λ i less. first.none i less start;
                    },
                  ))
            ]
          where
            subst_first : (h : ℕ × ℕ) → (moment s (suc k)).heard v ≡ Some h → h.0 ≡ start
            subst_first h is = subst (λ (g : Option (ℕ × ℕ)). IsFirst start g) is ((has_one s start (suc k) alone).heard v)

        from : (m : ℕ) → HasPath s start m v → (i : ℕ) × Accepts s v start i
        from zero path = absurd (no_links v other path)
        from (suc k) path = first_of k ((hears_path k v there).1 path)
