-- The tally of streams, with one fate more and of all nodes.
use Rattle.std.proofs.Common.{◌≡◌, ◌==◌, ◌&&◌, ◌∷◌, [], ◌+◌, ◌<◌, ◌++◌, ◌^◌, ℕ, List, Bool, true, false, cond, if◌then◌else◌, Option, Some, count_by, get_or}
use Rattle.std.proofs.Common.{length, map, take, filter, flat_map, nat_lt, unwrap_or, add-zero, refl, sym, ◌∙◌, ap, subst, arith}
use Rattle.std.proofs.lemmas.List.{length-take-le}
use Rattle.std.proofs.lemmas.List.Elements.{filter-append}
use Rattle.std.proofs.lemmas.Bool.{and_parts, eqb-true}
use Rattle.std.proofs.lemmas.List.Sums.{count_by-le-length}
use Rattle.std.specs.BTreeMap.{get, is_at}
use Rattle.scenario_text.specs.declared.lines.NodeLine.{NodeLine}
use Rattle.bus_terms.specs.FloodOfText.{ids}
use Rattle.bus_terms.specs.Fates.{is_cleared, is_dropped, is_sent, is_waiting, of_stream, streams}
use Rattle.bus_terms.specs.declared.packets.Fate.{Fate}
use Rattle.bus_terms.specs.declared.packets.Fate.TheVariants.{Cleared, Dropped, Sent, Waiting}
use Rattle.bus_terms.specs.declared.packets.PutFate.{PutFate}
use Rattle.bus_terms.specs.declared.packets.StreamCounts.{StreamCounts}
use Rattle.packet_fates.specs.Clearings.{queue_cmp}
use Rattle.packet_fates.specs.Counts.{HasRoom, IsCountOf, counts_after, counts_in, no_counts, tally_at}
use Rattle.packet_fates.proofs.FirstOnes.{count_more}
use Rattle.packet_fates.proofs.QueuesEmptied.{at_queue}
use Rattle.packet_fates.specs.declared.stream_tally.StreamTally.{StreamTally}

-- one fate more, of a stream or of another
one_counted : (c : StreamCounts) (b : Bool) (f : Fate) → (let d : StreamCounts = record {
  node = c.node;
  stream = c.stream;
  put = c.put + cond (b && true) 1 0;
  dropped = c.dropped + cond (b && is_dropped f) 1 0;
  sent = c.sent + cond (b && is_sent f) 1 0;
  waiting = c.waiting + cond (b && is_waiting f) 1 0;
  cleared = c.cleared + cond (b && is_cleared f) 1 0;
} in d ≡ cond b (counts_after c f) c)
one_counted c false f =
    λ k. record {
      node = c.node;
      stream = c.stream;
      put = add-zero c.put k;
      dropped = add-zero c.dropped k;
      sent = add-zero c.sent k;
      waiting = add-zero
          c.waiting k;
      cleared = add-zero c.cleared k;
    }
one_counted c true Dropped =
    λ k. record {
      node = c.node;
      stream = c.stream;
      put = c.put + 1;
      dropped = c.dropped + 1;
      sent = add-zero c.sent k;
      waiting = add-zero c.waiting k;
      cleared = add-zero c.cleared k;
    }
one_counted c true Waiting =
    λ k. record {
      node = c.node;
      stream = c.stream;
      put = c.put + 1;
      dropped = add-zero c.dropped k;
      sent = add-zero c.sent k;
      waiting = c.waiting + 1;
      cleared = add-zero c.cleared k;
    }
one_counted c true (Cleared frame) =
    λ k. record {
      node = c.node;
      stream = c.stream;
      put = c.put + 1;
      dropped = add-zero c.dropped k;
      sent = add-zero c.sent k;
      waiting = add-zero c.waiting k;
      cleared = c.cleared + 1;
    }
one_counted c true (Sent frame rank slot receivers at_host) =
    λ k. record {
      node = c.node;
      stream = c.stream;
      put = c.put + 1;
      dropped = add-zero c.dropped k;
      sent = c.sent + 1;
      waiting = add-zero c.waiting k;
      cleared = add-zero c.cleared k;
    }

module _ (fates : List PutFate) (i : ℕ) (before : StreamTally) (below : i < length fates) (are : IsCountOf (take i fates) before) where
  -- no count is above the number of fates
  pub room_below : length fates < 2 ^ 32 → (v j : ℕ) → HasRoom (tally_at before v j)
  room_below fits v j =
      let few : (p : PutFate → Bool) → count_by p (take i fates) + 1 < 2 ^ 32 = λ p. omega
      (arith, count_by-le-length p (take i fates), length-take-le i fates (omega arith)) in
      let room : HasRoom (counts_in (take i fates) v j) = record
      { put_fits = few _; dropped_fits = few _; sent_fits = few _; waiting_fits = few _; cleared_fits = few _ } in
      subst HasRoom (sym (are v j)) room

  pub counted_more : (x : PutFate) (after : StreamTally) → x ≡ get_or fates i x
      → ((v j : ℕ) → tally_at after v j ≡ (if (x.put.node == v) && (x.put.stream == j) then counts_after (tally_at before v j) x.fate else tally_at before v j))
      → IsCountOf (take (i + 1) fates) after
  counted_more x after at noted v j =
      let more : (test : Fate → Bool) → count_by (of_stream v j test) (take (i + 1) fates)
      ≡ count_by (of_stream v j test) (take i fates) + cond (of_stream v j test x) 1 0 =
      λ test. count_more (of_stream v j test) fates i x below at in
      noted v j
      ∙ ap (λ (c : StreamCounts). cond ((x.put.node == v) && (x.put.stream == j)) (counts_after c x.fate) c) (are v j)
      ∙ sym (one_counted (counts_in (take i fates) v j) ((x.put.node == v) && (x.put.stream == j)) x.fate)
      ∙ sym (λ k. record {
        node = v;
        stream = j;
        put = more (λ fate. true) k;
        dropped = more is_dropped k;
        sent = more is_sent k;
        waiting = more is_waiting k;
        cleared = more is_cleared k;
      })

-- the counts of one stream are written
pub noted_at : (before after : StreamTally) (n m : ℕ) (w : StreamCounts) (f : Fate)
    → ((q : ℕ × ℕ) → get queue_cmp after.counts q ≡ cond (is_at (queue_cmp (n, m)) q) (Some w) (get queue_cmp before.counts q))
    → w ≡ counts_after (tally_at before n m) f → (v j : ℕ) → tally_at after v j
    ≡ (if (n == v) && (m == j) then counts_after (tally_at before v j) f else tally_at before v j)
noted_at before after n m w f written is v j =
    ap (λ (o : Option StreamCounts). unwrap_or o (no_counts v j)) (written (v, j)
    ∙ ap (λ (b : Bool). cond b (Some w) (get queue_cmp before.counts (v, j))) (at_queue n m v j))
    ∙ by_test ((n == v) && (m == j)) refl
  where
    by_test : (b : Bool) → ((n == v) && (m == j)) ≡ b → unwrap_or (cond b (Some w) (get queue_cmp before.counts (v, j))) (no_counts v j)
        ≡ cond b (counts_after (tally_at before v j) f) (tally_at before v j)
    by_test true same =
        let parts = and_parts (n == v) (m == j) same in
        is ∙ (λ k. counts_after (tally_at before (eqb-true n v parts.0 k) (eqb-true m j parts.1 k)) f)
    by_test false other = refl

abbrev pub some_put : StreamCounts → Bool
some_put c = nat_lt 0 c.put

-- of all nodes
pub of_nodes : (f g : ℕ → ℕ → StreamCounts) (nodes : List NodeLine) → ((v j : ℕ) → f v j ≡ g v j)
    → flat_map (λ n. filter some_put (map (f n.node) streams)) nodes ≡ filter some_put (flat_map (λ v. map (g v) streams) (ids nodes))
of_nodes f g [] same = refl
of_nodes f g (n ∷ nodes) same =
    (λ k. filter some_put (map (λ j. same n.node j k) streams) ++ of_nodes f g nodes same k)
    ∙ sym (filter-append some_put (map (g n.node) streams) (flat_map (λ v. map (g v) streams) (ids nodes)))
