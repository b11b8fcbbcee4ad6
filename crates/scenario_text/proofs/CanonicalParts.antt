-- The canonical text as it is written, list by list.
use Rattle.std.proofs.Common.{◌≡◌, ℕ, ◌+◌, List, [], ◌∷◌, ◌++◌, map, flat_map, codes, refl, sym, ◌∙◌, ap}
use Rattle.std.specs.List.{enumerate_from}
use Rattle.std.proofs.lemmas.Grind.{flat_map-append}
use Rattle.std.proofs.lemmas.List.{append-nil, append_assoc}
use Rattle.std.proofs.lemmas.List.Folds.{flat_map-map}
use Rattle.text_writers.specs.Lines.{render, line_text, numbered}
use Rattle.scenario_text.specs.Canonical.{canonical, canonical_lines, profile_number, contend_lines, node_words, rate_words}
use Rattle.scenario_text.specs.Canonical.{host_lines, link_words, script_words, loss_words, cut_words, capture_words}
use Rattle.scenario_text.specs.ScenarioParts.{ScenarioParts}

-- the hosts are written with their places
pub hosts_by_rank : (rank : ℕ) (hosts : List ℕ) → flat_map (λ (p : ℕ × ℕ). line_text (numbered (codes "host") (p.0 ∷ p.1 ∷ [])))
    (enumerate_from rank hosts) ≡ render (host_lines rank hosts)
hosts_by_rank rank [] = refl
hosts_by_rank rank (h ∷ hosts) = ap (λ (l : List ℕ). line_text (numbered (codes "host") (rank ∷ h ∷ [])) ++ l) (hosts_by_rank (rank + 1) hosts)

-- a list of lines more
after : {A : Type 0} (words : A → List (List ℕ)) (xs : List A) (lines : List (List (List ℕ))) (text : List ℕ) → text ≡ render lines
    → text ++ flat_map (λ x. line_text (words x)) xs ≡ render (lines ++ map words xs)
after words xs lines text is =
    ap (λ (l : List ℕ). l ++ flat_map (λ x. line_text (words x)) xs) is
    ∙ ap (λ (l : List ℕ). render lines ++ l) (sym (flat_map-map line_text words xs))
    ∙ sym (flat_map-append line_text lines (map words xs))

-- what is written first
abbrev first_text : ScenarioParts → List ℕ
first_text s =
    line_text (numbered (codes "profile") (profile_number s.profile ∷ [])) ++ render (contend_lines s.profile.contend)
    ++ line_text (numbered (codes "frames") (s.frames ∷ [])) ++ line_text (numbered (codes "sends") (s.sends ∷ []))

-- the text of first lines, of nodes and of other lists in turn
pub in_turn : (s : ScenarioParts) → canonical s ≡ first_text s
    ++ flat_map (λ l. line_text (node_words l)) s.nodes ++ flat_map (λ l. line_text (rate_words l)) s.rates ++ render (host_lines 0 s.hosts)
    ++ flat_map (λ l. line_text (link_words l)) s.trace.links ++ flat_map (λ l. line_text (script_words l)) s.script
    ++ flat_map (λ l. line_text (loss_words l)) s.trace.losses ++ flat_map (λ l. line_text (cut_words l)) s.trace.cuts
    ++ flat_map (λ l. line_text (capture_words l)) s.trace.captures
unfolding canonical_lines
in_turn s =
    let profile = numbered (codes "profile") (profile_number s.profile ∷ []) in
    let frames = numbered (codes "frames") (s.frames ∷ []) in
    let sends = numbered (codes "sends") (s.sends ∷ []) in
    let top : List (List (List ℕ)) = profile ∷ contend_lines s.profile.contend in
    let of_nodes : List (List (List ℕ)) = top ++ frames ∷ sends ∷ map node_words s.nodes in
    let of_rates : List (List (List ℕ)) = of_nodes ++ map rate_words s.rates in
    let of_hosts : List (List (List ℕ)) = of_rates ++ host_lines 0 s.hosts in
    let of_links : List (List (List ℕ)) = of_hosts ++ map link_words s.trace.links in
    let of_script : List (List (List ℕ)) = of_links ++ map script_words s.script in
    let of_losses : List (List (List ℕ)) = of_script ++ map loss_words s.trace.losses in
    let of_cuts : List (List (List ℕ)) = of_losses ++ map cut_words s.trace.cuts in
    let begins = line_text profile ++ render (contend_lines s.profile.contend) in
    let first : first_text s ≡ render (top ++ frames ∷ sends ∷ []) =
    sym (flat_map-append line_text top (frames ∷ sends ∷ []) ∙ ap (λ (l : List ℕ). begins ++ (line_text frames ++ l))
    (append-nil (line_text sends)) ∙ sym (append_assoc begins (line_text frames) (line_text sends)))
    in
    let nodes = after node_words s.nodes (top ++ frames ∷ sends ∷ []) _ first ∙ ap render (append_assoc top (frames ∷ sends ∷ []) (map node_words s.nodes)) in
    let rates = after rate_words s.rates of_nodes _ nodes in
    let hosts = ap (λ (l : List ℕ). l ++ render (host_lines 0 s.hosts)) rates ∙ sym (flat_map-append line_text of_rates (host_lines 0 s.hosts)) in
    let links = after link_words s.trace.links of_hosts _ hosts in
    let script = after script_words s.script of_links _ links in
    let losses = after loss_words s.trace.losses of_script _ script in
    let cuts = after cut_words s.trace.cuts of_losses _ losses in
    sym (after capture_words s.trace.captures of_cuts _ cuts)
