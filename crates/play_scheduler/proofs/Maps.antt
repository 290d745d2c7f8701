-- Maps by name: the number that is found is the one of the moment, and the map stands.
use Rattle.std.specs.Prelude.{◌≡◌, ℕ, Bool, true, List, find, is_some, Option, Some, None, option_map, slice_index_or}
use Rattle.std.proofs.Common.{refl, sym, ap, subst, ◌∙◌}
use Rattle.papaya_raw.specs.Given.TablesDeclared.setting.Setting.{Setting}
use Rattle.run_schedules.specs.Runs.Same.{is_same}
use Rattle.run_schedules.specs.Schedules.Moment.{MapThere, Moment}
use Rattle.run_schedules.specs.Schedules.Terms.{Terms}
use Rattle.run_schedules.specs.Schedules.Views.{map_of, number_of}
use Rattle.run_shows.specs.Given.FinishesMaps.{Standing}
use Rattle.play_scheduler.specs.Played.{RefinesFor}
use Rattle.run_executor.specs.Named.Seen.{named, named_of, number_named, setting_named, with_setting}
use Rattle.run_executor.specs.declared.named_map.NamedMap.{NamedMap}
use Rattle.play_scheduler.specs.declared.scheduler.Scheduler.{Scheduler}
use Rattle.run_logged.proofs.Rows.Lists.{found_alike, found_has}

-- of a pair that is seen, the number
numbers_of : (o : Option MapThere) → option_map (λ z. z.1) (option_map named o) ≡ option_map (λ f. f.number) o
numbers_of None = refl
numbers_of (Some f) = refl

numbers_in : (o : Option NamedMap) → option_map (λ z. z.1) (option_map named_of o) ≡ option_map (λ t. t.number) o
numbers_in None = refl
numbers_in (Some t) = refl

some_number : {X : Type 0} (f : X → ℕ) (o : Option X) → is_some (option_map f o) ≡ is_some o
some_number f None = refl
some_number f (Some x) = refl

module _ {K V S : Type 0} (same : K → K → Bool) (hash : K → ℕ) (terms : Terms) (m : Moment K V) (p : Scheduler K V S) (stands : RefinesFor same hash terms m p) (own : List ℕ) where
  alike : option_map named (map_of own m) ≡ option_map named_of (find (λ t. is_same t.name own) p.maps)
  alike = found_alike named named_of m.maps p.maps stands.maps.listed (λ z. is_same z.0 own)

  pub number_is : number_of own m ≡ number_named own p.maps
  number_is = sym (numbers_of (map_of own m)) ∙ ap (option_map (λ z. z.1)) alike ∙ numbers_in (find (λ t. is_same t.name own) p.maps)

  pub map_some : is_some (map_of own m) ≡ is_some (number_named own p.maps)
  map_some = sym (some_number (λ f. f.number) (map_of own m)) ∙ ap is_some number_is

  -- a map that is found stands, with the setting that the executor has
  pub stands_by : (number : ℕ) → number_named own p.maps ≡ Some number
      → (standing : Standing K) × (stands.scene.maps number ≡ Some standing) × (slice_index_or p.logged.executor.maps.items number None ≡ Some standing.setting)
  stands_by number is = by (find (λ t. is_same t.name own) p.maps) refl is
    where
      Found : Type 0
      Found = (standing : Standing K) × (stands.scene.maps number ≡ Some standing) × (slice_index_or p.logged.executor.maps.items number None ≡ Some standing.setting)

      by : (o : Option NamedMap) → find (λ t. is_same t.name own) p.maps ≡ o → option_map (λ t. t.number) o ≡ Some number → Found
      by None e f = absurd (cc f)
      by (Some t) e f =
          let n : t.number ≡ number = cc f in
          let st = found_has (λ t. (standing : Standing K) × (stands.scene.maps t.number ≡ Some standing)) (λ t. is_same t.name own) p.maps t e stands.maps.stand in
          let there = subst (λ (x : ℕ). stands.scene.maps x ≡ Some st.0) n st.1 in
          (st.0, there, sym (stands.shown.is_at.maps number) ∙ ap (option_map (λ standing. standing.setting)) there)

  abbrev setting : Option (ℕ × Setting)
  setting = setting_named own p.maps p.logged.executor.maps.items

  -- so a setting is found just where a map is
  pub setting_some : is_some setting ≡ is_some (map_of own m)
  setting_some = by (number_named own p.maps) refl ∙ sym map_some
    where
      one : (n : ℕ) (o : Option Setting) (x : Setting) → o ≡ Some x → is_some (option_map {U = ℕ × Setting} (λ setting. (n, setting)) o) ≡ true
      one n None x e = absurd (cc e)
      one n (Some y) x e = refl

      by : (o : Option ℕ) → number_named own p.maps ≡ o → is_some setting ≡ is_some (number_named own p.maps)
      by None e = ap (λ (o : Option ℕ). is_some (with_setting p.logged.executor.maps.items o)) e ∙ sym (ap is_some e)
      by (Some n) e =
          let st = stands_by n e in
          ap (λ (o : Option ℕ). is_some (with_setting p.logged.executor.maps.items o)) e
          ∙ one n (slice_index_or p.logged.executor.maps.items n None) st.0.setting st.2 ∙ sym (ap is_some e)

  -- and it is that of the map that stands
  pub setting_of_it : (number : ℕ) (found : Setting) → setting ≡ Some (number, found)
      → (number_of own m ≡ Some number) × (standing : Standing K) × (stands.scene.maps number ≡ Some standing) × (standing.setting ≡ found)
  setting_of_it number found is = by (number_named own p.maps) refl is
    where
      Found : Type 0
      Found = (number_of own m ≡ Some number) × (standing : Standing K) × (stands.scene.maps number ≡ Some standing) × (standing.setting ≡ found)

      parts : (n : ℕ) (o : Option Setting) (x : Setting) → o ≡ Some x → option_map {U = ℕ × Setting} (λ setting. (n, setting)) o ≡ Some (number, found) → (n ≡ number) × (x ≡ found)
      parts n None x e f = absurd (cc e)
      parts n (Some y) x e f = (ap (λ z. z.0) (the (n, y) (number, found) f), (let h : y ≡ x = cc e in sym h ∙ ap (λ z. z.1) (the (n, y) (number, found) f)))
        where
          the : (a b : ℕ × Setting) → Some a ≡ Some b → a ≡ b
          the a b s = cc s

      by : (o : Option ℕ) → number_named own p.maps ≡ o → with_setting p.logged.executor.maps.items o ≡ Some (number, found) → Found
      by None e f = absurd (cc f)
      by (Some n) e f =
          let st = stands_by n e in
          let two = parts n (slice_index_or p.logged.executor.maps.items n None) st.0.setting st.2 f in
          (number_is ∙ e ∙ ap Some two.0, st.0, subst (λ (x : ℕ). stands.scene.maps x ≡ Some st.0) two.0 st.1, two.1)
