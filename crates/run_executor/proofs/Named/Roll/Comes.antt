-- What is kept of callers, where one comes, changes or leaves.
use Rattle.std.specs.Prelude.{◌==◌, slice_index, slice_set, Option, Some, None, if◌then◌else◌}
use Rattle.std.proofs.Common.{◌≡◌, ℕ, ◌+◌, ◌≤◌, ◌⊎◌, inl, inr, Bool, true, false, List, [], ◌∷◌, ◌++◌, length, refl, sym, ap, subst, arith, ◌∙◌}
use Rattle.run_schedules.specs.Runs.Same.{is_same}
use Rattle.run_schedules.proofs.Runs.Laws.{same_tells}
use Rattle.run_names.specs.Presence.Counts.{count_in}
use Rattle.run_names.specs.Presence.Crowd.{IsAbsent, LeadsHome, StandsAt, kept, weigh}
use Rattle.run_names.specs.Presence.Places.{IsElsewhere, place_of}
use Rattle.run_names.specs.declared.counts.Counts.{Counts}
use Rattle.run_names.specs.declared.name_index.NameIndex.{NameIndex}
use Rattle.run_names.proofs.Presence.Crowds.Homes.{OthersLead, changed_leads, come_leads, left_leads, more_stands, put_leads}
use Rattle.run_names.proofs.Presence.Crowds.Kept.{kept_few, kept_more}
use Rattle.run_names.proofs.Presence.Crowds.Weights.{counted_changed, counted_left, counted_more, weigh_changed, weigh_few, weigh_left, weigh_more}
use Rattle.run_executor.specs.Named.Roll.{AreKept, is_on, is_under, name_of}
use Rattle.run_executor.specs.declared.caller.NamedCaller.{NamedCaller}

module _ {V : Type 0} where
  -- nobody is there
  pub kept_none : (comers : List (Option (NamedCaller V))) (places : NameIndex) (under : Counts) (on : List ℕ) → comers ≡ [] → ((guard : List ℕ) → count_in guard under ≡ 0)
      → ((map : ℕ) → slice_index on map ≡ 0) → AreKept comers places under on 0
  kept_none comers places under on none no_guard no_map =
      subst (λ (l : List (Option (NamedCaller V))). AreKept l places under on 0) (sym none)
      (record { leads = record { home = λ p t s. absurd (cc s) }; under_so = no_guard; on_so = no_map; count_so = refl })

  kept_empty : (comers : List (Option (NamedCaller V))) → kept (comers ++ (None ∷ [])) ≡ kept comers
  kept_empty [] = refl
  kept_empty (None ∷ comers) = kept_empty comers
  kept_empty (Some t ∷ comers) = ap (λ (l : List (NamedCaller V)). t ∷ l) (kept_empty comers)

  empty_leads : (comers : List (Option (NamedCaller V))) (places : NameIndex) → LeadsHome name_of comers places → LeadsHome name_of (comers ++ (None ∷ [])) places
  empty_leads comers places leads = record { home = λ p t s. at p t (more_stands comers None p t s) }
    where
      at : (p : ℕ) (t : NamedCaller V) → ((p ≡ length comers) × (None ≡ Some t)) ⊎ StandsAt comers p t → place_of (name_of t) places ≡ Some p
      at p t (inl h) = let e = h.1 in absurd (cc e)
      at p t (inr s) = leads.home p t s

  -- a place is there for one who has not come yet
  pub place_kept : (comers : List (Option (NamedCaller V))) (old new : NameIndex) (under under2 : Counts) (on on2 : List ℕ) (count : ℕ) (name : List ℕ) → AreKept comers old under on count
      → IsAbsent name_of name comers → OthersLead {T = NamedCaller V} name_of name old new → ((guard : List ℕ) → count_in guard under2 ≡ count_in guard under) → ((map : ℕ) → slice_index on2 map ≡ slice_index on map)
      → AreKept (comers ++ (None ∷ [])) new under2 on2 count
  place_kept comers old new under under2 on on2 count name is absent others guards maps = record {
    leads = empty_leads comers new (put_leads name_of comers old new name is.leads absent others);
    under_so = λ guard. guards guard ∙ is.under_so guard ∙ sym (ap (weigh (is_under guard)) (kept_empty comers));
    on_so = λ map. maps map ∙ is.on_so map ∙ sym (ap (weigh (is_on map)) (kept_empty comers));
    count_so = is.count_so ∙ sym (ap length (kept_empty comers));
  }

  pub filled : (comers : List (Option (NamedCaller V))) (d : NamedCaller V) → slice_set (comers ++ (None ∷ [])) (length comers) (Some d) ≡ comers ++ Some d ∷ []
  filled [] d = refl
  filled (x ∷ comers) d = ap (λ (l : List (Option (NamedCaller V))). x ∷ l) (filled comers d)

  -- one more of a guard
  under_more : (under under2 : Counts) (d : NamedCaller V) (guard : List ℕ) (n : ℕ) → count_in d.guard under2 ≡ count_in d.guard under + 1
      → ((g : List ℕ) → IsElsewhere d.guard g → count_in g under2 ≡ count_in g under) → count_in guard under ≡ n → count_in guard under2 ≡ is_under guard d + n
  under_more under under2 d guard n here others is = by (is_same d.guard guard) refl
    where
      more : (a b : ℕ) → a ≡ b + 1 → b ≡ n → a ≡ 1 + n
      more a b e f = omega (arith, e, f)

      less : (a b : ℕ) → a ≡ b → b ≡ n → a ≡ 0 + n
      less a b e f = omega (arith, e, f)

      by : (b : Bool) → is_same d.guard guard ≡ b → count_in guard under2 ≡ (if b then 1 else 0) + n
      by true e =
          let one : d.guard ≡ guard = (same_tells d.guard guard).0 e in
          more (count_in guard under2) (count_in guard under) (subst (λ (g : List ℕ). count_in g under2 ≡ count_in g under + 1) one here) is
      by false e =
          less (count_in guard under2) (count_in guard under)
          (others guard (λ one. let told : is_same d.guard guard ≡ true = (same_tells d.guard guard).1 one in let never : true ≡ false = sym told ∙ e in cc never)) is

  -- one comes
  pub come_kept : (comers : List (Option (NamedCaller V))) (old new : NameIndex) (under under2 : Counts) (on on2 : List ℕ) (count : ℕ) (d : NamedCaller V) → AreKept comers old under on count
      → IsAbsent name_of d.name comers → OthersLead {T = NamedCaller V} name_of d.name old new → place_of d.name new ≡ Some (length comers) → count_in d.guard under2 ≡ count_in d.guard under + 1
      → ((g : List ℕ) → IsElsewhere d.guard g → count_in g under2 ≡ count_in g under) → ((map : ℕ) → slice_index on2 map ≡ (if d.map == map then 1 else 0) + slice_index on map)
      → AreKept (comers ++ (Some d ∷ [])) new under2 on2 (count + 1)
  come_kept comers old new under under2 on on2 count d is absent others led here guards maps = record {
    leads = come_leads name_of comers new d (put_leads name_of comers old new d.name is.leads absent others) led;
    under_so = λ guard.
        under_more under under2 d guard (weigh (is_under guard) (kept comers)) here guards (is.under_so guard)
        ∙ sym (ap (weigh (is_under guard)) (kept_more comers d) ∙ weigh_more (is_under guard) (kept comers) d);
    on_so = λ map.
        maps map ∙ ap (λ (n : ℕ). is_on map d + n) (is.on_so map) ∙ sym (ap (weigh (is_on map)) (kept_more comers d) ∙ weigh_more (is_on map) (kept comers) d);
    count_so = ap (λ (n : ℕ). n + 1) is.count_so ∙ sym (counted_more comers d);
  }

  -- one goes on
  pub changed_kept : (comers : List (Option (NamedCaller V))) (places : NameIndex) (under : Counts) (on : List ℕ) (count place : ℕ) (d n : NamedCaller V) → AreKept comers places under on count
      → StandsAt comers place d → n.name ≡ d.name → n.guard ≡ d.guard → n.map ≡ d.map → AreKept (slice_set comers place (Some n)) places under on count
  changed_kept comers places under on count place d n is stands name guard map = record {
    leads = changed_leads name_of comers places place d n is.leads stands name;
    under_so = λ g. is.under_so g ∙ sym (alike (is_under g) (ap (λ (l : List ℕ). if is_same l g then 1 else 0) guard));
    on_so = λ m. is.on_so m ∙ sym (alike (is_on m) (ap (λ (k : ℕ). if k == m then 1 else 0) map));
    count_so = is.count_so ∙ sym (counted_changed comers place d n stands);
  }
    where
      alike : (weight : NamedCaller V → ℕ) → weight n ≡ weight d → weigh weight (kept (slice_set comers place (Some n))) ≡ weigh weight (kept comers)
      alike weight e = let w = weigh_changed weight comers place d n stands in omega (arith, w, e)

  -- one less of a guard
  under_less : (under under2 : Counts) (d : NamedCaller V) (guard : List ℕ) (rest : ℕ) → count_in d.guard under2 + 1 ≡ count_in d.guard under
      → ((g : List ℕ) → IsElsewhere d.guard g → count_in g under2 ≡ count_in g under) → is_under guard d + rest ≡ count_in guard under → count_in guard under2 ≡ rest
  under_less under under2 d guard rest here others is = by (is_same d.guard guard) refl is
    where
      less : (a b : ℕ) → a + 1 ≡ b → 1 + rest ≡ b → a ≡ rest
      less a b e f = omega (arith, e, f)

      same : (a b : ℕ) → a ≡ b → 0 + rest ≡ b → a ≡ rest
      same a b e f = omega (arith, e, f)

      by : (b : Bool) → is_same d.guard guard ≡ b → (if b then 1 else 0) + rest ≡ count_in guard under → count_in guard under2 ≡ rest
      by true e h =
          let one : d.guard ≡ guard = (same_tells d.guard guard).0 e in
          less (count_in guard under2) (count_in guard under) (subst (λ (g : List ℕ). count_in g under2 + 1 ≡ count_in g under) one here) h
      by false e h =
          same (count_in guard under2) (count_in guard under)
          (others guard (λ one. let told : is_same d.guard guard ≡ true = (same_tells d.guard guard).1 one in let never : true ≡ false = sym told ∙ e in cc never)) h

  -- one leaves
  pub left_kept : (comers : List (Option (NamedCaller V))) (old new : NameIndex) (under under2 : Counts) (on on2 : List ℕ) (count count2 place : ℕ) (d : NamedCaller V) → AreKept comers old under on count
      → StandsAt comers place d → OthersLead {T = NamedCaller V} name_of d.name old new → count_in d.guard under2 + 1 ≡ count_in d.guard under
      → ((g : List ℕ) → IsElsewhere d.guard g → count_in g under2 ≡ count_in g under) → ((map : ℕ) → (if d.map == map then 1 else 0) + slice_index on2 map ≡ slice_index on map)
      → count2 + 1 ≡ count → AreKept (slice_set comers place None) new under2 on2 count2
  left_kept comers old new under under2 on on2 count count2 place d is stands others here guards maps one = record {
    leads = left_leads name_of comers old new d.name place is.leads (d, stands, refl) others;
    under_so = λ guard. under_less under under2 d guard (weigh (is_under guard) (kept (slice_set comers place None))) here guards (weigh_left (is_under guard) comers place d stands ∙ sym (is.under_so guard));
    on_so = λ map. less (is_on map d) (slice_index on2 map) (weigh (is_on map) (kept (slice_set comers place None))) (maps map ∙ is.on_so map ∙ sym (weigh_left (is_on map) comers place d stands));
    count_so = let so = is.count_so in let gone = counted_left comers place d stands in omega (arith, one, so, gone);
  }
    where
      less : (a b c : ℕ) → a + b ≡ a + c → b ≡ c
      less a b c e = omega (arith, e)

  -- places at the end go, where nobody stands
  pub trimmed_kept : (comers trimmed : List (Option (NamedCaller V))) (places : NameIndex) (under : Counts) (on : List ℕ) (count : ℕ) → AreKept comers places under on count
      → kept trimmed ≡ kept comers → ((p : ℕ) (t : NamedCaller V) → StandsAt trimmed p t → StandsAt comers p t) → AreKept trimmed places under on count
  trimmed_kept comers trimmed places under on count is same stands = record {
    leads = record { home = λ p t s. is.leads.home p t (stands p t s) };
    under_so = λ guard. is.under_so guard ∙ sym (ap (weigh (is_under guard)) same);
    on_so = λ map. is.on_so map ∙ sym (ap (weigh (is_on map)) same);
    count_so = is.count_so ∙ sym (ap length same);
  }

  -- none is more than there are
  pub few_under : (comers : List (Option (NamedCaller V))) (guard : List ℕ) → weigh (is_under guard) (kept comers) ≤ length comers
  few_under comers guard =
      let few = weigh_few (is_under guard) (λ d. at_most (is_same d.guard guard)) (kept comers) in
      let kept_so = kept_few comers in
      omega (arith, few, kept_so)
    where
      at_most : (b : Bool) → (if b then 1 else 0) ≤ 1
      at_most true = omega arith
      at_most false = omega arith

  pub few_on : (comers : List (Option (NamedCaller V))) (map : ℕ) → weigh (is_on map) (kept comers) ≤ length comers
  few_on comers map =
      let few = weigh_few (is_on map) (λ d. at_most (d.map == map)) (kept comers) in
      let kept_so = kept_few comers in
      omega (arith, few, kept_so)
    where
      at_most : (b : Bool) → (if b then 1 else 0) ≤ 1
      at_most true = omega arith
      at_most false = omega arith

  -- where one stands its guard and its map are counted
  pub some_under : (comers : List (Option (NamedCaller V))) (places : NameIndex) (under : Counts) (on : List ℕ) (count place : ℕ) (d : NamedCaller V) → AreKept comers places under on count → StandsAt comers place d
      → 1 ≤ count_in d.guard under
  some_under comers places under on count place d is stands =
      let left = weigh_left (is_under d.guard) comers place d stands in
      let so = is.under_so d.guard in
      let one : is_under d.guard d ≡ 1 = ap (λ (b : Bool). if b then 1 else 0) ((same_tells d.guard d.guard).1 refl) in
      omega (arith, left, so, one)

  pub some_on : (comers : List (Option (NamedCaller V))) (places : NameIndex) (under : Counts) (on : List ℕ) (count place : ℕ) (d : NamedCaller V) → AreKept comers places under on count → StandsAt comers place d
      → 1 ≤ slice_index on d.map
  some_on comers places under on count place d is stands =
      let left = weigh_left (is_on d.map) comers place d stands in
      let so = is.on_so d.map in
      let one : is_on d.map d ≡ 1 = ap (λ (b : Bool). if b then 1 else 0) (itself d.map) in
      omega (arith, left, so, one)
    where
      itself : (n : ℕ) → (n == n) ≡ true
      itself n = grind arith

  pub some_count : (comers : List (Option (NamedCaller V))) (places : NameIndex) (under : Counts) (on : List ℕ) (count place : ℕ) (d : NamedCaller V) → AreKept comers places under on count → StandsAt comers place d
      → 1 ≤ count
  some_count comers places under on count place d is stands =
      let gone = counted_left comers place d stands in
      let so = is.count_so in
      omega (arith, gone, so)
