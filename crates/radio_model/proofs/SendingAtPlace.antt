-- The transmission of the station at a place is the node's.
use Rattle.std.proofs.Common.{◌≡◌, ◌<◌, ◌≤◌, ◌^◌, ℕ, List, length, get_or, Option, Some, sym, ◌∙◌, ap}
use Rattle.std.proofs.Common.{subst, arith, All, IfSome, IsSomeAnd, set, ◌+◌, ◌*◌}
use Rattle.link_trace.specs.Passes.{Lines}
use Rattle.radio_model.specs.Stations.{MediumState, IsMedium, station_of, sending_of_station, station_after_end, Ends}
use Rattle.radio_model.specs.Ages.{IsAged}
use Rattle.radio_model.specs.Meetings.{hearers_to}
use Rattle.radio_model.specs.declared.sending.Sending.{Sending}
use Rattle.radio_model.specs.declared.station.Station.{Station}
use Rattle.std.proofs.Math.Nat.{mul-le-mul_right}
use Rattle.radio_model.proofs.Places.{found}
use Rattle.radio_model.proofs.EndedSendings.{all_aged_later, aged_changed, aged_finished}
use Rattle.radio_model.proofs.Heard.{byte_is}

module _ (m : MediumState) (is : IsMedium m) (v i : ℕ) (st : Station) (below : i < length m.stations) (at : st ≡ get_or m.stations i st) (of : st.node ≡ v)
  where
    found_there : station_of m v ≡ Some st
    found_there = found m.stations v i st is.nodes.ascending below at of

    module _ (t : ℕ) (ends : Ends m v t) where
      pub runs_there : st.sending ≡ Some ends.sending
      runs_there = sym (ap sending_of_station found_there) ∙ ends.runs

      -- its times are small, and all that ended is over by its end
      pub times_there : t ≤ 2 ^ 46 → m.now ≤ t → All (λ (s : Station). IsAged m.now s.ended.items) m.stations → (x : Sending) → st.sending ≡ Some x
          → (x.start ≤ 2 ^ 46) × (x.end ≤ 2 ^ 46) × All (λ (s : Station). IsAged x.end s.ended.items) m.stations
      times_there small later aged x sends =
          let one : Some ends.sending ≡ Some x = sym runs_there ∙ sends in
          let until = ends.until in
          let lasts = ends.lasts in
          subst (λ (o : Option Sending).
          IsSomeAnd o (λ y. (y.start ≤ 2 ^ 46) × (y.end ≤ 2 ^ 46) × All (λ (s : Station). IsAged y.end s.ended.items) m.stations)) one
          (omega arith, omega arith, all_aged_later m.now ends.sending.end m.stations (omega arith) aged)

    pub hearers_there : (lines : Lines) (result : List (ℕ × ℕ)) (x : Sending) → st.sending ≡ Some x → result ≡ hearers_to m.numbers lines v x m.stations
        → IfSome (sending_of_station (station_of m v)) (λ y. result ≡ hearers_to m.numbers lines v y m.stations)
    hearers_there lines result x sends heard =
        subst (λ (o : Option Station). IfSome (sending_of_station o) (λ y. result ≡ hearers_to m.numbers lines v y m.stations)) (sym found_there)
        (subst (λ (o : Option Sending). IfSome o (λ y. result ≡ hearers_to m.numbers lines v y m.stations)) (sym sends) heard)

-- after its end all that ended is over
pub aged_after_ending : (m : MediumState) → IsMedium m → (v i t : ℕ) (old new : Station) → i < length m.stations → old ≡ get_or m.stations i old → old.node ≡ v
    → m.now ≤ t → Ends m v t
    → All (λ (st : Station). IsAged m.now st.ended.items) m.stations → new ≡ station_after_end old
    → All (λ (st : Station). IsAged t st.ended.items) (set m.stations i new)
aged_after_ending m is v i t old new below at of later ends aged change =
    let runs : old.sending ≡ Some ends.sending = sym (ap sending_of_station (found m.stations v i old is.nodes.ascending below at of)) ∙ ends.runs in
    let until = ends.until in
    let lasts = ends.lasts in
    let byte = byte_is m.numbers is.profile in
    let least : 8 * m.numbers.byte ≤ (length ends.sending.packet + 8) * m.numbers.byte = mul-le-mul_right m.numbers.byte (omega arith) in
    let there : IsAged t old.ended.items =
    subst (λ (st : Station). IsAged t st.ended.items) (sym at) (all_aged_later m.now t m.stations later aged i old below) in
    aged_changed m.now t i m.stations new later aged
    (subst (λ (st : Station). IsAged t st.ended.items) (sym change) (aged_finished t old ends.sending there runs (omega arith) until))
