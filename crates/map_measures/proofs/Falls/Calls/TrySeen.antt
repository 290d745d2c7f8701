-- The word of the place of a call's try, before a step and after it.
use Rattle.std.specs.Prelude.{◌+◌, ◌==◌, if◌then◌else◌}
use Rattle.std.proofs.Common.{◌≡◌, ◌≢◌, ℕ, ◌<◌, Bool, Some, ap, sym, ◌∙◌, arith}
use Rattle.std.proofs.lemmas.Bool.{ne_eqb}
use Rattle.seize_words.specs.OneMemory.Mem.{Mem, word_at}
use Rattle.map_tables.specs.Trials.{place_tried}
use Rattle.map_tables.specs.declared.node.Node.{Node}
use Rattle.map_tables.specs.declared.setting.Setting.{Setting}
use Rattle.map_tables.specs.declared.table.Table.{Table}
use Rattle.map_tables.specs.declared.table_words.TheConstants.{PLACES}
use Rattle.map_tables.specs.declared.trial.Trial.{Trial}
use Rattle.many_calls.specs.Given.RawDeclared.machines.call.KeyCall.{KeyCall}
use Rattle.many_calls.specs.Given.RuleChart.{Chart}
use Rattle.many_calls.specs.Given.RuleMaps.{spot_at, IsMap, IsTrial}
use Rattle.many_calls.specs.Given.RuleWords.{Blocks, place_word}
use Rattle.many_calls.proofs.Given.RuleKeys.TriesSeen.{spot_inside}
use Rattle.many_calls.proofs.Given.RuleWords.TablesSeen.{place_stands, place_there}
use Rattle.map_measures.specs.Falls.Calls.{stale}
use Rattle.map_measures.proofs.Falls.Onward.{Onward, KeepsTables, table_on}

-- at the place of a try
module _ {K V : Type 0} (same : K → K → Bool) (hash : K → ℕ) (setting : Setting) (m : Mem (Node K V)) (c : Chart K) (blocks : Blocks) (map : IsMap same hash setting.mode setting.root m c blocks)
    (tried : Trial) (code t j : ℕ) (trial : IsTrial c blocks tried code t j) where
  inside : tried.probe.i < c.len t
  inside = let l = spot_inside (c.len t) code j (map.rule.common.lens t trial.table.made).0 in let is = trial.place in omega (arith, l, is)

  pub try_shown : word_at m (place_tried tried) ≡ Some (place_word hash c blocks (c.place t (spot_at (c.len t) code j)))
  try_shown =
      place_there hash m c blocks setting.root map.shows tried.table t trial.table tried.probe.i inside
      ∙ ap (λ (i : ℕ). Some (place_word hash c blocks (c.place t i))) trial.place

  -- its word is kept where those of all tables are
  pub try_kept : (m2 : Mem (Node K V)) → KeepsTables setting.root c blocks m m2 → word_at m2 (place_tried tried) ≡ word_at m (place_tried tried)
  try_kept m2 keeps =
      let stands = place_stands hash m c blocks setting.root map.shows tried.table t trial.table tried.probe.i inside in
      ap (word_at m2) stands ∙ keeps.words_kept t (tried.probe.i + PLACES) trial.table.made trial.table.known ∙ ap (word_at m) (sym stands)

module _ {K V Q : Type 0} (hash : K → ℕ) (c : Chart K) (blocks : Blocks) (p : KeyCall K V Q) (t j : ℕ) (trial : IsTrial c blocks p.trial p.hash t j) where
  pub at_try_is : c.place p.trial.table.turn (spot_at (c.len p.trial.table.turn) p.hash p.trial.probe.len) ≡ c.place t (spot_at (c.len t) p.hash j)
  at_try_is =
      ap (λ (x : Table). c.place x.turn (spot_at (c.len x.turn) p.hash p.trial.probe.len)) trial.table.is
      ∙ ap (λ (x : ℕ). c.place t (spot_at (c.len t) p.hash x)) trial.try

module _ {K V Q : Type 0} (same : K → K → Bool) (hash : K → ℕ) (setting : Setting) (m : Mem (Node K V)) (c : Chart K) (blocks : Blocks) (m2 : Mem (Node K V)) (c2 : Chart K) (blocks2 : Blocks)
    (on : Onward same hash setting m c blocks m2 c2 blocks2) (p : KeyCall K V Q) (t j : ℕ) (trial : IsTrial c blocks p.trial p.hash t j) where
  -- the same try is seen after the step
  pub trial_on : IsTrial c2 blocks2 p.trial p.hash t j
  trial_on = record {
    table = table_on same hash setting m c blocks m2 c2 blocks2 on p.trial.table t trial.table;
    place = trial.place ∙ ap (λ n. spot_at n p.hash j) (sym (on.lasts.lens t trial.table.made).0);
    try = trial.try;
    most = (let most = trial.most in let limit = (on.lasts.lens t trial.table.made).1 in omega (arith, most, limit));
  }

  shown_after : word_at m2 (place_tried p.trial) ≡ Some (place_word hash c2 blocks2 (c2.place t (spot_at (c2.len t) p.hash j)))
  shown_after = try_shown same hash setting m2 c2 blocks2 on.map2 p.trial p.hash t j trial_on

  shown_before : word_at m (place_tried p.trial) ≡ Some (place_word hash c blocks (c.place t (spot_at (c.len t) p.hash j)))
  shown_before = try_shown same hash setting m c blocks on.map p.trial p.hash t j trial

  -- what was read there is there after the step, where nothing was written
  pub found_here : m2 ≡ m → (found : ℕ) → word_at m (place_tried p.trial) ≡ Some found → found ≡ place_word hash c2 blocks2 (c2.place t (spot_at (c2.len t) p.hash j))
  found_here is found read =
      let shown = shown_after in
      let here : word_at m2 (place_tried p.trial) ≡ Some found = ap (λ x. word_at x (place_tried p.trial)) is ∙ read in
      cc (shown, here)

  -- the word is not there that is expected
  pub stale_is : (word found : ℕ) → word_at m (place_tried p.trial) ≡ Some found → found ≢ word → stale hash c blocks p word ≡ 4
  stale_is word found read other =
      ap (λ (b : Bool). if b then 0 else 4)
      (ne_eqb word (place_word hash c blocks (c.place p.trial.table.turn (spot_at (c.len p.trial.table.turn) p.hash p.trial.probe.len)))
      (λ e. other (before ∙ sym (e ∙ ap (place_word hash c blocks) (at_try_is hash c blocks p t j trial)))))
    where
      before : found ≡ place_word hash c blocks (c.place t (spot_at (c.len t) p.hash j))
      before = let shown = shown_before in cc (shown, read)

  -- a word is as stale as it was, where those of all tables are kept
  pub stale_kept : KeepsTables setting.root c blocks m m2 → (word : ℕ) → stale hash c2 blocks2 p word ≡ stale hash c blocks p word
  stale_kept keeps word =
      ap (λ (x : ℕ). if word == x then 0 else 4)
      (ap (place_word hash c2 blocks2) (at_try_is hash c2 blocks2 p t j trial_on) ∙ here ∙ ap (place_word hash c blocks) (sym (at_try_is hash c blocks p t j trial)))
    where
      here : place_word hash c2 blocks2 (c2.place t (spot_at (c2.len t) p.hash j)) ≡ place_word hash c blocks (c.place t (spot_at (c.len t) p.hash j))
      here =
          let after = shown_after in let before = shown_before in
          let kept = try_kept same hash setting m c blocks on.map p.trial p.hash t j trial m2 keeps in
          cc (after, before, kept)
