-- A call at a try reads its word, or tries to exchange it.
use Rattle.std.specs.Prelude.{◌==◌, if◌then◌else◌, List, ◌∷◌, Option, None, Some}
use Rattle.std.proofs.Common.{◌≡◌, ℕ, suc, ◌-◌, ◌^◌, ◌<◌, Bool, true, false, inl, inr, ap, sym, subst, arith}
use Rattle.seize_words.specs.OneMemory.Mem.{Mem, Took, value_at, word_at}
use Rattle.seize_words.specs.OneMemory.Plan.{Ends, Now, Steps}
use Rattle.seize_words.proofs.OneMemory.OneOwner.Operations.{loaded, exchanged}
use Rattle.seize_words.proofs.OneMemory.Plans.{ends_if}
use Rattle.map_tables.specs.Chunks.{is_incremental}
use Rattle.map_tables.specs.Finding.{may_name}
use Rattle.map_tables.specs.Trials.{place_tried}
use Rattle.map_tables.specs.declared.marks.TheConstants.{TOMBSTONE}
use Rattle.map_tables.specs.declared.node.Node.{Node}
use Rattle.map_tables.specs.declared.setting.Setting.{Setting}
use Rattle.many_calls.specs.Given.RawCall.{have_one_key, key_read, pair_read, word_read, word_found, probes, tried, tries}
use Rattle.many_calls.specs.Given.RawCallPoints.{going, changed, told}
use Rattle.many_calls.specs.Given.RawDeclared.machines.answer.KeyAnswer.TheVariants as answers
use Rattle.many_calls.specs.Given.RawDeclared.machines.answer.Called.{Called}
use Rattle.many_calls.specs.Given.RawDeclared.machines.call.KeyCall.{KeyCall}
use Rattle.many_calls.specs.Given.RawDeclared.machines.call.Calling.{Calling}
use Rattle.many_calls.specs.Given.RawDeclared.machines.call.Calling.TheVariants as at
use Rattle.map_machines.specs.Dispose.{disposing}
use Rattle.map_machines.specs.Lookup.{names_pair}
use Rattle.many_calls.specs.Given.RuleChart.{Chart}
use Rattle.many_calls.specs.Given.RuleMaps.{spot_at, IsTrial, spot_of}
use Rattle.many_calls.specs.Given.RuleWords.{Blocks, place_word}
use Rattle.many_calls.proofs.Given.RuleKeys.TriesSeen.{next_is}
use Rattle.many_calls.proofs.Given.RuleWords.PlacesShown.{shown_block, shown_byte, are_stored}
use Rattle.many_calls.specs.Given.PointsMeasures.{IsBelow}
use Rattle.map_measures.specs.Falls.Room.{tables_to_come}
use Rattle.map_measures.specs.Falls.Calls.{nothing_within, trying, number_at, number_of_call}
use Rattle.map_measures.specs.Falls.Falls.{GoesFurther}
use Rattle.map_measures.proofs.Falls.Onward.{Onward, past_kept}
use Rattle.map_measures.proofs.Falls.Kept.{keeps_still}
use Rattle.map_measures.proofs.Falls.Calls.Tries.{told_below}
use Rattle.map_measures.proofs.Falls.Calls.TrySeen.{trial_on, found_here, stale_is}

module _ {K V Q : Type 0} (same : K → K → Bool) (hash : K → ℕ) (asks : Q → K → Bool) (fits : (k : K) → hash k < 2 ^ 64) (setting : Setting)
    (m : Mem (Node K V)) (c : Chart K) (blocks : Blocks) (m2 : Mem (Node K V)) (c2 : Chart K) (blocks2 : Blocks) (on : Onward same hash setting m c blocks m2 c2 blocks2) (p : KeyCall K V Q) where
  -- what is to be shown of a step from there
  abbrev Goal : Calling → KeyCall K V Q × Called (Node K V) → Type 0
  Goal stands end = GoesFurther end.1 → IsBelow (number_of_call hash c2 blocks2 end.0) (number_at hash c blocks p stands)

  ends_as : (stands : Calling) (end e : KeyCall K V Q × Called (Node K V)) → end ≡ e → Goal stands e → Goal stands end
  ends_as stands end e is = subst (λ (x : KeyCall K V Q × Called (Node K V)). Goal stands x) (sym is)

  still : m2 ≡ m → c2.past ≡ c.past
  still is = past_kept same hash setting m c blocks m2 c2 blocks2 on (keeps_still setting.root c blocks m m2 is)

  module _ (end : KeyCall K V Q × Called (Node K V)) where
    -- its change is made
    changed_below : (word new : ℕ) (xs : List ℕ) → GoesFurther (changed {V = V} p word new).1 → IsBelow (number_of_call hash c2 blocks2 (changed {V = V} p word new).0) (5 ∷ xs)
    changed_below word new xs = by (new == TOMBSTONE) (word == 0)
      where
        by : (b e : Bool)
            → GoesFurther (if b then going {V = V} p (at.Counts word) else (if e then going p (at.Counts 0) else going p (at.Disposes (disposing p.setting word p.trial.table) (answers.Replaced word p.own)))).1
            → IsBelow (number_of_call hash c2 blocks2 (if b then going p (at.Counts word) else (if e then going p (at.Counts 0) else going p (at.Disposes (disposing p.setting word p.trial.table) (answers.Replaced word p.own)))).0) (5 ∷ xs)
        by true e goes = inl (omega arith)
        by false true goes = inl (omega arith)
        by false false goes = inl (omega arith)

    -- at a try
    module _ (t j : ℕ) (trial : IsTrial c blocks p.trial p.hash t j) where
      abbrev same_try : IsTrial c2 blocks2 p.trial p.hash t j
      same_try = trial_on same hash setting m c blocks m2 c2 blocks2 on p t j trial

      abbrev is_found : m2 ≡ m → (found : ℕ) → word_at m (place_tried p.trial) ≡ Some found → found ≡ place_word hash c2 blocks2 (c2.place t (spot_at (c2.len t) p.hash j))
      is_found = found_here same hash setting m c blocks m2 c2 blocks2 on p t j trial

      -- what was read there leads to lower numbers
      module _ (is : m2 ≡ m) (just_read : Bool) (word : ℕ) (word_is : word ≡ place_word hash c2 blocks2 (c2.place t (spot_at (c2.len t) p.hash j))) (point : ℕ) (some_left : 2 < point)
          (more_left : just_read ≡ false → 3 < point) (e : KeyCall K V Q × Called (Node K V)) where
        abbrev Below : Type 0
        Below = GoesFurther e.1 → IsBelow (number_of_call hash c2 blocks2 e.0) (trying hash c blocks p point)

        before_same : trying hash c2 blocks2 p point ≡ trying hash c blocks p point
        before_same = ap (λ x. 5 ∷ tables_to_come x 0 ∷ (x - p.trial.table.turn) ∷ 0 ∷ suc (p.trial.table.limit - p.trial.probe.len) ∷ point ∷ nothing_within) (still is)

        by_flag : (flag : Bool) → e ≡ told just_read p word flag → Below
        by_flag flag is =
            subst (λ (x : KeyCall K V Q × Called (Node K V)). GoesFurther x.1 → IsBelow (number_of_call hash c2 blocks2 x.0) (trying hash c blocks p point)) (sym is)
            (λ goes. subst (λ (xs : List ℕ). IsBelow (number_of_call hash c2 blocks2 (told just_read p word flag).0) xs) before_same
            (told_below hash c2 blocks2 p t j same_try
            (shown_block hash m2 c2 blocks2 setting.root on.map2.shows (are_stored same (spot_of hash) (is_incremental setting.mode) c2 on.map2.rule.common) t (spot_at (c2.len t) p.hash j) same_try.table.made same_try.table.known)
            (shown_byte hash fits c2.key (c2.place t (spot_at (c2.len t) p.hash j)))
            (next_is c2 blocks2 p.hash t p.trial j same_try (on.map2.shows.sized t same_try.table.made) (on.map2.rule.common.lens t same_try.table.made).1)
            word word_is just_read point some_left more_left flag goes))

        by_key : (key : Option K) → Ends (value_at m) (key_read asks same just_read p word key) e → Below
        by_key (Some key) ends = by_flag (names_pair (same key) ends.0) ends.2
        by_key None ends = by_flag (have_one_key same ends.0 ends.2.0) ends.2.2

        by_asked : (asked : Option Q) → Ends (value_at m) (pair_read asks same just_read p word asked) e → Below
        by_asked (Some q) ends = by_flag (names_pair (asks q) ends.0) ends.2
        by_asked None ends = by_key p.replies.key ends

        read_below : Ends (value_at m) (word_read asks same just_read p word) e → Below
        read_below ends =
            elim (ends_if (value_at m) (may_name p.hash word) (pair_read asks same just_read p word p.asked) (Now (told just_read p word false)) e ends) as (λ _. Below) [
              | inl h ↦ by_asked p.asked h.1
              | inr h ↦ by_flag false h.1
            ]

      pub on_probes : Steps Took value_at m (probes asks same p) m2 end → Goal at.Probes end
      on_probes s =
          let d = loaded m (word_found asks same p) (place_tried p.trial) m2 end s in
          read_below d.2 true d.0 (is_found d.2 d.0 d.1) 3 (omega arith) (λ e. absurd (cc)) end d.3

      pub on_tries : (word new : ℕ) → Steps Took value_at m (tries asks same p word new) m2 end → Goal (at.Tries word new) end
      on_tries word new s =
          elim (exchanged m (tried asks same p word new) (place_tried p.trial) word new m2 end s) as (λ _. Goal (at.Tries word new) end) [
            | inl d ↦ ends_as (at.Tries word new) end (changed p word new) d.3 (changed_below word new _)
            | inr d ↦ subst (λ (x : ℕ). GoesFurther end.1 → IsBelow (number_of_call hash c2 blocks2 end.0) (trying hash c blocks p x)) (sym (stale_is same hash setting m c blocks m2 c2 blocks2 on p t j trial word d.0 d.1.0 d.1.1))
                (read_below d.2 false d.0 (is_found d.2 d.0 d.1.0) 4 (omega arith) (λ e. omega arith) end d.3)
          ]
