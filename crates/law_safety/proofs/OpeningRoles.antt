-- What the opening of a window leaves of its node's role: all but streams stays, or a host that closes its round goes on to
-- its next plan.
use Rattle.std.proofs.Common.{◌≡◌, ℕ, ◌-◌, ◌<◌, ◌≤◌, ◌⊎◌, inl, inr, length, true, ◌==◌, nat_lt, nat_le, if◌then◌else◌, Option, is_some, refl, sym, ◌∙◌, ap}
use Rattle.std.proofs.Common.{arith, true≢false}
use Rattle.std.specs.Prelude.{slice_index}
use Rattle.std.proofs.lemmas.Bool.{cond_both, leb-true, ltb-true, ltb-false, eqb-true, eqb-false}
use Rattle.lwb_base.specs.Messages.{Plan}
use Rattle.bus_rules.specs.declared.part.Part.{Part}
use Rattle.bus_rules.specs.declared.part.Part.TheVariants.{Opening, Data as DataSlot, Contention, Closing}
use Rattle.bus_rules.specs.Plans.{last_slot}
use Rattle.bus_rules.specs.Tuning.{rank_of, hosts}
use Rattle.bus_rules.specs.Cores.{Core, Setup, is_fresh}
use Rattle.bus_rules.specs.Slots.{Opened, hosts_now, part_of, opened_slot, host_closes, silent}
use Rattle.bus_rules.proofs.Ranks.{host_now}

-- where a slot of this part is in its round
abbrev pub StandsAt : Plan → ℕ → Part → Type 0
StandsAt p j Opening = j ≡ 0
StandsAt p j (DataSlot owner) = (1 ≤ j) × (j < last_slot p)
StandsAt p j (Contention i) = (1 ≤ j) × (j < last_slot p)
StandsAt p j Closing = (1 ≤ j) × (last_slot p ≤ j)

pub stands : (p : Plan) (j : ℕ) → StandsAt p j (part_of p j)
stands p j =
    let rest : Part = if nat_lt j (last_slot p) then Contention (j - length p.owners) else Closing in
    cond_both (j == 0) Opening (if nat_le j (length p.owners) then DataSlot (slice_index p.owners (j - 1)) else rest) (StandsAt p j) (λ is. eqb-true j 0 is)
    (λ some.
    let past = eqb-false j 0 some in
    cond_both (nat_le j (length p.owners)) (DataSlot (slice_index p.owners (j - 1))) rest (StandsAt p j)
    (λ own. let few = leb-true j (length p.owners) own in (omega (arith, past), omega (arith, few)))
    (λ other. cond_both (nat_lt j (last_slot p)) (Contention (j - length p.owners)) Closing (StandsAt p j)
    (λ less. (omega (arith, past), ltb-true j (last_slot p) less))
    (λ end. (omega (arith, past), ltb-false j (last_slot p) end))))

-- the core e keeps all but the streams of c; whoever hosts has more slots to come
pub record KeepsPlan (f : ℕ) (c : Core) (j : ℕ) (e : Core) : Type 0 where
  pub tune : e.tune ≡ c.tune
  pub plan : e.plan ≡ c.plan
  pub own_slot : e.own_slot ≡ c.own_slot
  pub more : hosts_now f c ≡ true → j < last_slot c.plan

-- a host closes its round
pub record PlansNext (s : Setup) (f : ℕ) (c : Core) (j : ℕ) (o : Opened) : Type 0 where
  pub now : hosts_now f c ≡ true
  pub part : part_of c.plan j ≡ Closing
  pub behind : 1 ≤ j
  pub last : last_slot c.plan ≤ j
  pub is : o ≡ host_closes s f c

abbrev pub Role : Setup → ℕ → Core → ℕ → Opened → Type 0
Role s f c j o = KeepsPlan f c j o.core ⊎ PlansNext s f c j o

role_by : (s : Setup) (f : ℕ) (c : Core) (j : ℕ) (part : Part) → part_of c.plan j ≡ part → StandsAt c.plan j part → Role s f c j (opened_slot s f part c)
role_by s f c j Opening is at = inl (record { tune = refl; plan = refl; own_slot = refl; more = λ now. omega (arith, at) })
role_by s f c j (DataSlot owner) is at = inl (record { tune = refl; plan = refl; own_slot = refl; more = λ now. at.1 })
role_by s f c j (Contention i) is at = inl (record { tune = refl; plan = refl; own_slot = refl; more = λ now. at.1 })
role_by s f c j Closing is at =
    cond_both (hosts_now f c) (host_closes s f c) (silent c) (Role s f c j)
    (λ now. inr (record { now = now; part = is; behind = at.0; last = at.1; is = refl }))
    (λ other. inl (record { tune = refl; plan = refl; own_slot = refl; more = λ now. absurd (true≢false (sym now ∙ other)) }))

pub role_of : (s : Setup) (f : ℕ) (c : Core) (j : ℕ) → Role s f c j (opened_slot s f (part_of c.plan j) c)
role_of s f c j = role_by s f c j (part_of c.plan j) refl (stands c.plan j)

-- either way it stays at its rank, a host or none, fresh or not
pub record SameStanding (c e : Core) : Type 0 where
  pub rank : rank_of e.tune ≡ rank_of c.tune
  pub host : hosts e.tune ≡ hosts c.tune
  pub fresh : is_fresh e ≡ is_fresh c

pub same_standing : (s : Setup) (f : ℕ) (c : Core) (j : ℕ) (o : Opened) → Role s f c j o → SameStanding c o.core
same_standing s f c j o (inl keeps) =
    record { rank = ap rank_of keeps.tune; host = ap hosts keeps.tune; fresh = ap (λ (x : Option ℕ). is_some x) keeps.own_slot }
same_standing s f c j o (inr plans) = record {
  rank = ap (λ (x : Opened). rank_of x.core.tune) plans.is;
  host = ap (λ (x : Opened). hosts x.core.tune) plans.is ∙ sym (host_now f c plans.now);
  fresh = ap (λ (x : Opened). is_fresh x.core) plans.is;
}
