-- The receptions that end at a tick, given to a course one after another.
use Rattle.std.proofs.Common.{◌≡◌, ℕ, ◌+◌, List, [], ◌∷◌, ◌++◌, take, map, filter, fold, Bool, true, false}
use Rattle.std.proofs.Common.{cond, ◌==◌, Some, None, refl, sym, ◌∙◌, ap, eq-eqb, eqb-true}
use Rattle.std.specs.Prelude.{slice_get}
use Rattle.std.proofs.lemmas.Bool.{cond-true}
use Rattle.std.proofs.lemmas.List.{map-append}
use Rattle.std.proofs.lemmas.List.Sums.{fold-append}
use Rattle.lwb_base.specs.declared.event.Event.TheVariants.{Heard}
use Rattle.bus_rules.specs.Cores.{Setup}
use Rattle.radio_model.specs.declared.sending.Sending.{Sending}
use Rattle.std.specs.declared.option.Option.{Option}
use Rattle.air_log.specs.declared.entry.HeardEntry.{HeardEntry}
use Rattle.air_log.specs.Devices.{Device, event}
use Rattle.air_log.specs.Trails.{Reception, ending_at, device_after_reception, device_after_receptions}
use Rattle.air_log.specs.Courses.{CourseState, Goes, IsSplitByKey, end_of_reception, reception_in}
use Rattle.air_log.proofs.ShownCourses.{shows_as}
use Rattle.air_log.proofs.ListCuts.{IsGone, gone_first, gone_more, none_yet, none_left, filter_more}

-- what ends at a tick, of entries and of what the trail takes
abbrev ends : ℕ → HeardEntry → Bool
ends t h = h.end == t

ending_in : (t : ℕ) (hs : List HeardEntry) → ending_at t (map reception_in hs) ≡ map reception_in (filter (ends t) hs)
ending_in t [] = refl
ending_in t (h ∷ hs) = ap (λ (rs : List Reception). cond (h.end == t) (reception_in h ∷ rs) rs) (ending_in t hs) ∙ by (h.end == t)
  where
    by : (b : Bool) → cond b (reception_in h ∷ map reception_in (filter (ends t) hs)) (map reception_in (filter (ends t) hs))
        ≡ map reception_in (cond b (h ∷ filter (ends t) hs) (filter (ends t) hs))
    by true = refl
    by false = refl

module _ (clock : ℕ → ℕ) (hs : List HeardEntry) (t : ℕ) where
  keyed : (h : HeardEntry) → ends t h ≡ true → end_of_reception h ≡ t
  keyed h is = eqb-true h.end t is

  abbrev so_far : ℕ → Setup → Device → Device
  so_far k q d = fold (device_after_reception clock q t) d (map reception_in (filter (ends t) (take k hs)))

  pub record AreHeard (k : ℕ) (old now : CourseState) : Type 0 where
    pub cut : IsGone end_of_reception hs k t
    pub goes : Goes t (so_far k) old now

  pub none_heard : (k : ℕ) (c : CourseState) → IsSplitByKey end_of_reception hs k t → AreHeard k c c
  none_heard k c cut = record {
    cut = gone_first end_of_reception hs k t cut;
    goes =
        λ q d shows. shows_as q t c d (so_far k q d) shows
        (sym (ap (λ (xs : List HeardEntry). fold (device_after_reception clock q t) d (map reception_in xs))
        (none_yet end_of_reception hs (ends t) t keyed k cut)));
  }

  pub one_more_heard : (k : ℕ) (old now : CourseState) → AreHeard k old now → (h : HeardEntry) → slice_get hs k ≡ Some h → h.end ≡ t → (last : CourseState)
      → (let none : Option Sending = None in Goes t (λ q d. event clock q t (Heard h.packet) none d) now last) → AreHeard (k + 1) old last
  one_more_heard k old now heard h at same last goes = record {
    cut = gone_more end_of_reception hs k t h at same heard.cut;
    goes = λ q d shows.
        let front = filter (ends t) (take k hs) in
        let more : filter (ends t) (take (k + 1) hs) ≡ front ++ h ∷ [] =
        filter_more end_of_reception hs (ends t) k h at
        ∙ ap (λ (xs : List HeardEntry). front ++ xs) (cond-true (h.end == t) (h ∷ []) [] (eq-eqb h.end t same)) in
        shows_as q t last (device_after_reception clock q t (so_far k q d) (reception_in h)) (so_far (k + 1) q d) (goes q (so_far k q d) (heard.goes q d shows))
        (sym (ap (λ (xs : List HeardEntry). fold (device_after_reception clock q t) d (map reception_in xs)) more
        ∙ ap (fold (device_after_reception clock q t) d) (map-append reception_in front (h ∷ []))
        ∙ fold-append (device_after_reception clock q t) d (map reception_in front) (reception_in h ∷ [])));
  }

  pub all_heard : (k : ℕ) (old now : CourseState) → AreHeard k old now → IsSplitByKey end_of_reception hs k (t + 1)
      → Goes t (λ q d. device_after_receptions clock q t (map reception_in hs) d) old now
  all_heard k old now so cut = λ q d shows.
      shows_as q t now (so_far k q d) (device_after_receptions clock q t (map reception_in hs) d) (so.goes q d shows)
      (sym (ap (fold (device_after_reception clock q t) d) (ending_in t hs ∙ ap (map reception_in) (none_left end_of_reception hs (ends t) t keyed k cut))))
