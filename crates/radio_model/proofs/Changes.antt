-- The changes that calls make keep the node, its place and its room.
use Rattle.std.proofs.Common.{◌≡◌, ℕ, List, Option, Some, None, refl}
use Rattle.std.proofs.lemmas.Bool.{cond_both}
use Rattle.lwb_base.specs.Profile.{Numbers}
use Rattle.circular_buffer.specs.Buffer.{Buffer}
use Rattle.radio_model.specs.Stations.{station_after_tuning, tuning_in, tuning_out, is_tuned_to, station_after_start, station_after_end, with_ended}
use Rattle.radio_model.specs.declared.sending.Sending.{Sending}
use Rattle.radio_model.specs.declared.tuning.RadioTuning.{RadioTuning}
use Rattle.radio_model.proofs.Places.{Keeps}

pub retuned_keeps : (rank : Option ℕ) (t : ℕ) → Keeps (station_after_tuning rank t)
retuned_keeps None t = record { node = λ st. refl; place = λ st. refl; room = λ st. refl }
retuned_keeps (Some r) t = record {
  node = λ st. cond_both (is_tuned_to st.tuning.now r) st.tuning (tuning_in r t (tuning_out t st.tuning))
      (λ (x : RadioTuning). (record st { tuning = x }).node ≡ st.node) (λ _. refl) (λ _. refl);
  place = λ st. cond_both (is_tuned_to st.tuning.now r) st.tuning (tuning_in r t (tuning_out t st.tuning))
      (λ (x : RadioTuning). (record st { tuning = x }).place ≡ st.place) (λ _. refl) (λ _. refl);
  room =
      λ st. cond_both (is_tuned_to st.tuning.now r) st.tuning (tuning_in r t (tuning_out t st.tuning))
      (λ (x : RadioTuning). (record st { tuning = x }).ended.capacity ≡ st.ended.capacity) (λ _. refl)
      (λ _. refl);
}

pub started_keeps : (p : Numbers) (t : ℕ) (packet : List ℕ) → Keeps (station_after_start p t packet)
started_keeps p t packet = record { node = λ st. refl; place = λ st. refl; room = λ st. refl }

same_room : (b : Buffer Sending) (o : Option Sending) → (with_ended b o).capacity ≡ b.capacity
same_room b None = refl
same_room b (Some x) = refl

pub finished_keeps : Keeps station_after_end
finished_keeps = record { node = λ st. refl; place = λ st. refl; room = λ st. same_room st.ended st.sending }
