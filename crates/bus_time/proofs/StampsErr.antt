-- Each stamp of a valid log errs little.
use Rattle.std.proofs.Common.{◌≡◌, ℕ, ◌+◌, ◌-◌, ◌<◌, ◌==◌, if◌then◌else◌, List, [], ◌∷◌, Contains, Bool, true, false, refl, sym, ◌∙◌, ap, subst, arith}
use Rattle.std.specs.Prelude.{slice_index}
use Rattle.std.specs.List.{AllZip}
use Rattle.tick_clock.specs.Clocks.{Near}
use Rattle.radio_model.specs.declared.sending.Sending.{Sending}
use Rattle.scenario_text.specs.ScenarioParts.{ScenarioParts}
use Rattle.air_log.specs.declared.entry.Entry.{Entry}
use Rattle.air_log.specs.Lawful.{Lawful}
use Rattle.air_log.specs.Safe.{sender_hosts}
use Rattle.lwb_base.proofs.Elements.{contains_head, contains_tail}
use Rattle.law_safety.specs.Endings.{EndsInOrder}
use Rattle.law_safety.specs.Invariant.{IsDrivenWell}
use Rattle.law_safety.specs.SentPlans.{IsHostOf}
use Rattle.law_safety.proofs.RunFacts.{host_is, host_named}
use Rattle.law_safety.proofs.RunSendings.{of_flood}
use Rattle.law_safety.proofs.InvariantHolds.{whole_run}
use Rattle.bus_time.specs.Stamps.{AreStamps, HasReference, IsStamp, stamped}
use Rattle.law_safety.specs.AgreeingNodes.{DifferByLess}
use Rattle.bus_time.specs.StampErrors.{AllErrLittle, ErrsByAge, ErrsLittle, drifted, never_reached, slack}
use Rattle.bus_time.specs.StampLaws.{BeginsData}
use Rattle.bus_time.specs.declared.stamp.Stamp.{Stamp}
use Rattle.bus_time.proofs.DataHosts.{hosts_named}
use Rattle.bus_time.proofs.GivenWords.{begun_data}
use Rattle.bus_time.proofs.StampAges.{began_by, close, reference_says}
use Rattle.bus_time.proofs.StampErrors.{errs, flood}
use Rattle.bus_time.proofs.StampedLists.{stamped_begins}

-- what holds of each pair by what is known of its first
pub zip_weaker : {X Y : Type 0} (R Q : X → Y → Type 0) (xs : List X) (ys : List Y) → ((x : X) → Contains xs x → (y : Y) → R x y → Q x y) → AllZip R xs ys
    → AllZip Q xs ys
zip_weaker R Q [] [] gives all = tt
zip_weaker R Q [] (y ∷ ys) gives all = absurd all
zip_weaker R Q (x ∷ xs) [] gives all = absurd all
zip_weaker R Q (x ∷ xs) (y ∷ ys) gives all = (
  gives x (contains_head x xs) y all.0,
  zip_weaker R Q xs ys (λ z there. gives z (contains_tail x xs z there)) all.1,
)

module _ (s : ScenarioParts) (clocks : ℕ → ℕ → ℕ) (air : List Entry) (whole : EndsInOrder s clocks air) (x : Sending) (begun : BeginsData air x)
    (stamp : Stamp) (is : IsStamp s clocks air x stamp) where
  abbrev host : ℕ
  host = slice_index s.hosts x.rank

  named : IsHostOf s x.rank host
  named = host_named s x.rank (of_flood s clocks air whole x begun.there).hosted

  own : sender_hosts s clocks air x ≡ true → stamp.tick ≡ clocks host x.start
  own hosting =
      is.tick.host hosting
      ∙ ap (λ (v : ℕ). clocks v x.start) (sym (host_is s x.rank x.node ((hosts_named s clocks air whole x begun).0 hosting)))

  module _ (guest : sender_hosts s clocks air x ≡ false) where
    by : HasReference s air x clocks stamp.tick
    by = is.tick.other guest

    by_age : ErrsByAge s clocks air x stamp.tick host
    by_age =
        let d = by.ahead in
        let h = by.heard in
        let told = reference_says s air x d h by.reference in
        let y = told.0 in
        let flooded = flood s clocks air whole x begun d h by.reference y told.1 in
        let o = flooded.origin in
        let began = began_by s clocks air h flooded in
        record {
          by = by;
          schedule = y;
          says = told.1;
          first = o;
          began = began;
          near = subst (λ (t : ℕ). Near t (clocks host x.start) (slack y + drifted (x.start - o.start))) (sym by.is)
              (errs s clocks air whole x begun d h by.reference y told.1 o began host named);
        }

    guest_close : DifferByLess stamp.tick (clocks host x.start) (never_reached s.profile)
    guest_close =
        let age = by_age in
        let r = age.by in
        subst (λ (t : ℕ). DifferByLess t (clocks host x.start) (never_reached s.profile)) (sym r.is)
        (close s clocks air whole x begun r.ahead r.heard r.reference age.schedule age.says age.first age.began host named)

  close_by : (b : Bool) → sender_hosts s clocks air x ≡ b → DifferByLess stamp.tick (clocks host x.start) (never_reached s.profile)
  close_by true hosting = at_once (own hosting) (some_ticks (s.profile.seconds == 4))
    where
      some_ticks : (c : Bool) → 0 < (if c then 44960 else 58300)
      some_ticks true = omega arith
      some_ticks false = omega arith

      at_once : {m n d : ℕ} → m ≡ n → 0 < d → DifferByLess m n d
      at_once same some = record { below = omega (arith, same, some); above = omega (arith, same, some) }
  close_by false guest = guest_close guest

  pub errs_little : ErrsLittle s clocks air x stamp
  errs_little = record { host = host; named = named; hosting = own; other = by_age; close = close_by (sender_hosts s clocks air x) refl }

pub all_err_little : (s : ScenarioParts) (clocks : ℕ → ℕ → ℕ) (air : List Entry) → IsDrivenWell s clocks → Lawful s clocks air → (stamps : List Stamp)
    → AreStamps s clocks air stamps → AllErrLittle s clocks air stamps
all_err_little s clocks air driven lawful stamps are =
    zip_weaker (IsStamp s clocks air) (ErrsLittle s clocks air) (stamped s.profile air) stamps
    (λ x there stamp is. (
    let begins = stamped_begins s.profile air x there in
    errs_little s clocks air (whole_run s clocks air driven lawful) x (begun_data air x begins.0 begins.1) stamp is
    ))
    are
