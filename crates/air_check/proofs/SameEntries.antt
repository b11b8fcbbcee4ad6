-- Tunings that say the same are one.
use Rattle.std.proofs.Common.{◌≡◌, ℕ, List, [], ◌∷◌, Bool, true, ◌==◌, ◌&&◌, map, refl, ap, ◌∙◌, sym, subst}
use Rattle.std.specs.Bool.{Decides}
use Rattle.std.proofs.lemmas.Bool.{and_parts, eq-eqb, eqb-true}
use Rattle.radio_model.specs.OnAir.{Tuning}
use Rattle.air_log.specs.declared.entry.TunedEntry.{TunedEntry}
use Rattle.air_log.specs.DeviceStates.{tuning_of}

abbrev pub tuned_with : Tuning → TunedEntry
tuned_with t = record { rank = t.rank; node = t.node; start = t.start; end = t.end }

again_tuned : (ts : List TunedEntry) → map tuned_with (map tuning_of ts) ≡ ts
again_tuned [] = refl
again_tuned (t ∷ ts) = ap (λ (l : List TunedEntry). t ∷ l) (again_tuned ts)

pub one_tuned : (ts us : List TunedEntry) → map tuning_of ts ≡ map tuning_of us → ts ≡ us
one_tuned ts us is = sym (again_tuned ts) ∙ ap (map tuned_with) is ∙ again_tuned us

-- the test of two tunings
abbrev tuned_at : ℕ → ℕ → ℕ → ℕ → TunedEntry
tuned_at r v a b = record { rank = r; node = v; start = a; end = b }

abbrev alike : TunedEntry → TunedEntry → Bool
alike a b = (a.rank == b.rank) && ((a.node == b.node) && ((a.start == b.start) && (a.end == b.end)))

itself : (a : TunedEntry) → alike a a ≡ true
itself a = rw (eq-eqb a.rank a.rank refl, eq-eqb a.node a.node refl, eq-eqb a.start a.start refl, eq-eqb a.end a.end refl) refl

pub equal_tuned : (a b : TunedEntry) → Decides (alike a b) (a ≡ b)
equal_tuned a b = (
  λ yes.
      (let p = and_parts (a.rank == b.rank) ((a.node == b.node) && ((a.start == b.start) && (a.end == b.end))) yes in
      let q = and_parts (a.node == b.node) ((a.start == b.start) && (a.end == b.end)) p.1 in
      let r = and_parts (a.start == b.start) (a.end == b.end) q.1 in
      ap (λ (n : ℕ). tuned_at n a.node a.start a.end) (eqb-true a.rank b.rank p.0)
      ∙ ap (λ (n : ℕ). tuned_at b.rank n a.start a.end) (eqb-true a.node b.node q.0)
      ∙ ap (λ (n : ℕ). tuned_at b.rank b.node n a.end) (eqb-true a.start b.start r.0)
      ∙ ap (λ (n : ℕ). tuned_at b.rank b.node b.start n) (eqb-true a.end b.end r.1)),
  λ is. subst (λ (t : TunedEntry). alike a t ≡ true) is (itself a),
)
