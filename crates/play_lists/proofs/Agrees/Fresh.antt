-- Of a number with which no map has come nothing is there after an entry of other numbers, if nothing was there before.
use Rattle.std.specs.Prelude.{◌≢◌, ◌⊎◌, ◌==◌, not, cond, filter, find, map, Option, Some, None, if◌then◌else◌}
use Rattle.std.specs.List.{AllByRecursion}
use Rattle.std.specs.Option.{option_or}
use Rattle.std.proofs.Common.{◌≡◌, ℕ, ◌+◌, Bool, true, false, List, [], ◌∷◌, inl, inr, refl, ap, sym, ◌∙◌}
use Rattle.std.proofs.lemmas.Bool.{ne_eqb}
use Rattle.std.proofs.lemmas.List.Folds.{find-append}
use Rattle.many_acts.proofs.Given.FollowsCalling.{come_same, replied_same}
use Rattle.many_acts.proofs.Given.FollowsCalls.{IsOfSame, changed, changed_same, of_same}
use Rattle.run_schedules.specs.Runs.Same.{is_same}
use Rattle.run_schedules.specs.Schedules.After.{with_outcome, replied, stepped, without_call}
use Rattle.run_schedules.specs.Schedules.Effects.{call_by, maps_by, shards_by, with_effect, with_effects, word_with}
use Rattle.run_schedules.specs.Schedules.Entry.{acting, ends_call}
use Rattle.run_schedules.specs.Schedules.Lists.{put}
use Rattle.run_schedules.specs.Schedules.Moment.{MapThere, Moment, UnderWay}
use Rattle.run_schedules.specs.Schedules.Views.{map_at}
use Rattle.run_schedules.specs.declared.effect.Effect.{Effect}
use Rattle.run_schedules.specs.declared.effect.Effect.TheVariants as effect
use Rattle.run_schedules.specs.declared.effect.TableId.{TableId}
use Rattle.run_schedules.specs.declared.outcome.Outcome.{Outcome}
use Rattle.run_schedules.specs.declared.outcome.Outcome.TheVariants as outcome
use Rattle.run_schedules.specs.Deeds.Deeds.{Deed, Begins, Steps, Replies, Stops, MapComes, MapFails, MapGoes, Entry, acted_on, after, at_work, begun, caller_of, calls_on, maps_on, moment, named, worked}
use Rattle.play_lists.specs.Agrees.Fresh.{IsBare, IsFresh, comes_with, gives_back, in_use}
use Rattle.play_lists.proofs.Agrees.Elsewhere.{AllLinkElsewhere, LinksElsewhere, StoresElsewhere, no_tables_by, none_promoted, pairs_other, stores_elsewhere}
use Rattle.play_lists.proofs.Agrees.Lists.{all_kept, found_so}

-- nothing is asked of tables that become the root's
abbrev pub AnyTable : TableId → Type 0
AnyTable t = Unit {0}

module _ (n : ℕ) where
  -- no map is there with a number with which none was
  no_map_by : (f : Effect) (maps : List MapThere) → find (λ g. g.number == n) maps ≡ None → find (λ g. g.number == n) (maps_by f maps) ≡ None
  no_map_by (effect.Promoted t) maps none = none_promoted n t maps none
  no_map_by _ maps none = none

  -- among those that are kept none is found either
  none_kept : (keep : MapThere → Bool) (maps : List MapThere) → find (λ g. g.number == n) maps ≡ None → find (λ g. g.number == n) (filter keep maps) ≡ None
  none_kept keep [] none = refl
  none_kept keep (f ∷ maps) none = by (keep f) (f.number == n) refl (none_kept keep maps) none
    where
      by : (p q : Bool) → (f.number == n) ≡ q → (find (λ g. g.number == n) maps ≡ None → find (λ g. g.number == n) (filter keep maps) ≡ None)
          → cond q (Some f) (find (λ g. g.number == n) maps) ≡ None → find (λ g. g.number == n) (if p then f ∷ filter keep maps else filter keep maps) ≡ None
      by p true e rest is = absurd (cc is)
      by true false e rest is = ap (λ (z : Bool). cond z (Some f) (find (λ g. g.number == n) (filter keep maps))) e ∙ rest is
      by false false e rest is = rest is

  -- pairs that are stored are stored in another map
  abbrev pub ActsElsewhere : Option ℕ → List Effect → Type 0
  ActsElsewhere acted [] = Unit {0}
  ActsElsewhere acted (f ∷ effects) = StoresElsewhere n acted f × ActsElsewhere acted effects

  pub acts_elsewhere : (acted : Option ℕ) (effects : List Effect) → acted ≢ Some n → ActsElsewhere acted effects
  acts_elsewhere acted [] other = tt
  acts_elsewhere acted (f ∷ effects) other = (stores_elsewhere n acted other f, acts_elsewhere acted effects other)

module _ {K V : Type 0} (n : ℕ) where
  abbrev pub OnOther : UnderWay K V → Type 0
  OnOther c = c.map ≢ n

  -- calls of one caller have changed, but not in what they are
  changed_other : (change : UnderWay K V → UnderWay K V) (is_of : (c : UnderWay K V) → IsOfSame c (change c)) (own : List ℕ) (cs : List (UnderWay K V)) → AllByRecursion OnOther cs
      → AllByRecursion OnOther (map (changed change is_of own) cs)
  changed_other change is_of own [] all = tt
  changed_other change is_of own (c ∷ cs) all = (λ e. all.0 (sym (of_same change is_of own c).1 ∙ e), changed_other change is_of own cs all.1)

  kept_other : (keep : UnderWay K V → Bool) (cs : List (UnderWay K V)) → AllByRecursion OnOther cs → AllByRecursion OnOther (filter keep cs)
  kept_other keep cs all = all_kept OnOther OnOther keep cs (λ c kept so. so) all

  -- the call of a caller, if it has one
  abbrev IfOnOther : Option (UnderWay K V) → Type 0
  IfOnOther None = Unit {0}
  IfOnOther (Some c) = OnOther c

  its_other : (caller : Option (List ℕ)) (m : Moment K V) → AllByRecursion OnOther m.calls → IfOnOther (acting caller m)
  its_other None m all = tt
  its_other (Some own) m all = by (acting (Some own) m) refl
    where
      by : (o : Option (UnderWay K V)) → acting (Some own) m ≡ o → IfOnOther o
      by None e = tt
      by (Some c) e = (found_so OnOther (λ c. is_same c.caller own) m.calls c all e).0

  counted_other : (o : Option (UnderWay K V)) (f : Effect) (shards : ℕ → ℕ → ℕ) (s : ℕ) → IfOnOther o → shards n s ≡ 0 → shards_by o f shards n s ≡ 0
  counted_other (Some c) (effect.Counted field) shards s other none =
      ap (λ (q : Bool). (if q then put field (word_with c (shards c.map field)) (shards c.map) else shards n) s) (ne_eqb n c.map (λ e. other (sym e))) ∙ none
  counted_other (Some c) _ shards s other none = none
  counted_other None f shards s other none = none

  calls_other : (caller : Option (List ℕ)) (f : Effect) (m : Moment K V) (acted : Option ℕ) → AllByRecursion OnOther m.calls → AllByRecursion OnOther (with_effect caller acted f m).calls
  calls_other None f m acted all = all
  calls_other (Some own) f m acted all = changed_other (call_by m f) (changed_same m f) own m.calls all

  effect_bare : (caller : Option (List ℕ)) (acted : Option ℕ) (f : Effect) (m : Moment K V) → StoresElsewhere n acted f → LinksElsewhere n AnyTable f → IsBare n m → IsBare n (with_effect caller acted f m)
  effect_bare caller acted f m other links bare = record {
    no_table = no_tables_by n AnyTable caller acted f m links bare.no_table;
    no_pair = λ k is. bare.no_pair k (pairs_other n acted m.deferred f other m.place k is);
    no_count = λ s. counted_other (acting caller m) f m.shards s (its_other caller m bare.no_call) (bare.no_count s);
    no_call = calls_other caller f m acted bare.no_call;
  }

  effects_bare : (caller : Option (List ℕ)) (acted : Option ℕ) (effects : List Effect) (m : Moment K V) → ActsElsewhere n acted effects → AllLinkElsewhere n AnyTable effects → IsBare n m
      → IsBare n (with_effects caller acted effects m)
  effects_bare caller acted [] m other links bare = bare
  effects_bare caller acted (f ∷ effects) m other links bare = effects_bare caller acted effects (with_effect caller acted f m) other.1 links.1 (effect_bare caller acted f m other.0 links.0 bare)

  no_map_then : (caller : Option (List ℕ)) (acted : Option ℕ) (effects : List Effect) (m : Moment K V) → map_at n m ≡ None → map_at n (with_effects caller acted effects m) ≡ None
  no_map_then caller acted [] m none = none
  no_map_then caller acted (f ∷ effects) m none = no_map_then caller acted effects (with_effect caller acted f m) (no_map_by n f m.maps none)

  -- no call begins on it
  abbrev pub BeginsElsewhere : Deed K V → Type 0
  BeginsElsewhere (Begins i s map call) = map ≢ n
  BeginsElsewhere deed = Unit {0}

  begun_bare : (d : Deed K V) (m : Moment K V) → BeginsElsewhere d → IsBare n m → IsBare n (begun d m)
  begun_bare (Begins i s map call) m other bare = record { no_table = bare.no_table; no_pair = bare.no_pair; no_count = bare.no_count; no_call = (other, bare.no_call) }
  begun_bare (MapComes map root mode capacity) m other bare = record { no_table = bare.no_table; no_pair = bare.no_pair; no_count = bare.no_count; no_call = bare.no_call }
  begun_bare _ m other bare = bare

  none_begun : (d : Deed K V) (m : Moment K V) → comes_with n d ≡ false → map_at n m ≡ None → map_at n (begun d m) ≡ None
  none_begun (MapComes map root mode capacity) m comes none =
      find-append (λ (g : MapThere). g.number == n) m.maps (it ∷ []) ∙ ap (λ (o : Option MapThere). option_or o (find (λ g. g.number == n) (it ∷ []))) none
      ∙ ap (λ (q : Bool). cond q (Some it) None) comes
    where
      it : MapThere
      it = record { name = named map; number = map; root = root; mode = mode; capacity = capacity; first = 0 }
  none_begun _ m comes none = none

  maps_left : (d : Deed K V) (maps : List MapThere) → find (λ g. g.number == n) maps ≡ None → find (λ g. g.number == n) (maps_on d maps) ≡ None
  maps_left (MapFails map) maps none = none_kept n (λ f. not (is_same f.name (named map))) maps none
  maps_left (MapGoes map) maps none = none_kept n (λ f. not (is_same f.name (named map))) maps none
  maps_left _ maps none = none

  stepped_other : (caller : Option (List ℕ)) (o : Outcome V) (cs : List (UnderWay K V)) → AllByRecursion OnOther cs → AllByRecursion OnOther (stepped caller o 1 cs)
  stepped_other None o cs all = all
  stepped_other (Some own) o cs all = by (ends_call o)
    where
      by : (q : Bool) → AllByRecursion OnOther (if q then without_call own cs else map (λ c. if is_same c.caller own then with_outcome o (record c { steps = c.steps + 1 }) else c) cs)
      by true = kept_other (λ c. not (is_same c.caller own)) cs all
      by false = changed_other (λ c. with_outcome o (record c { steps = c.steps + 1 })) (λ c. come_same o (record c { steps = c.steps + 1 })) own cs all

  calls_left : (d : Deed K V) (o : Outcome V) (cs : List (UnderWay K V)) → AllByRecursion OnOther cs → AllByRecursion OnOther (calls_on d o cs)
  calls_left (Replies i reply) outcome.Goes cs all = changed_other (λ c. replied reply c c.stands) (λ c. replied_same reply c c.stands) (named i) cs all
  calls_left (Stops i) outcome.Goes cs all = all
  calls_left (Stops i) _ cs all = kept_other (λ c. not (is_same c.caller (named i))) cs all
  calls_left (Steps i) o cs all = stepped_other (Some (named i)) o cs all
  calls_left _ _ cs all = all

  -- An entry of other numbers.
  pub record IsElsewhere (e : Entry K V) (m : Moment K V) : Type 0 where
    pub begins : BeginsElsewhere e.deed
    pub acts : ActsElsewhere n (acted_on e.deed (at_work e m)) e.effects
    pub links : AllLinkElsewhere n AnyTable e.effects

  pub entry_bare : (e : Entry K V) (m : Moment K V) → IsElsewhere e m → IsBare n m → IsBare n (after e m)
  entry_bare e m elsewhere bare =
      let w = effects_bare (caller_of e.deed) (acted_on e.deed (at_work e m)) e.effects (at_work e m) elsewhere.acts elsewhere.links (begun_bare e.deed m elsewhere.begins bare) in
      record { no_table = w.no_table; no_pair = w.no_pair; no_count = w.no_count; no_call = calls_left e.deed e.outcome (worked e m).calls w.no_call }

  pub entry_fresh : (e : Entry K V) (m : Moment K V) → comes_with n e.deed ≡ false → IsElsewhere e m → IsFresh n m → IsFresh n (after e m)
  entry_fresh e m comes elsewhere fresh = record {
    no_map = maps_left e.deed (worked e m).maps (no_map_then (caller_of e.deed) (acted_on e.deed (at_work e m)) e.effects (at_work e m) (none_begun e.deed m comes fresh.no_map));
    bare = entry_bare e m elsewhere fresh.bare;
  }

if_not : (q p b : Bool) → (if q then true else (if p then false else b)) ≡ false → (q ≡ false) × ((p ≡ true) ⊎ (b ≡ false))
if_not true p b is = absurd (cc is)
if_not false true b is = (refl, inl refl)
if_not false false b is = (refl, inr is)

module _ {K V : Type 0} (again : Bool) (n : ℕ) (e : Entry K V) (log : List (Entry K V)) where
  -- a number that is not in use was not, unless it is given back now
  pub not_in_use : in_use again n (e ∷ log) ≡ false → (comes_with n e.deed ≡ false) × ((gives_back again n e.deed ≡ true) ⊎ (in_use again n log ≡ false))
  not_in_use is = if_not (comes_with n e.deed) (gives_back again n e.deed) (in_use again n log) is

  pub was_not : gives_back again n e.deed ≡ false → in_use again n (e ∷ log) ≡ false → (comes_with n e.deed ≡ false) × (in_use again n log ≡ false)
  was_not keeps is = (
    (not_in_use is).0,
    elim (not_in_use is).1 as (λ _. in_use again n log ≡ false) [
      | inl gives ↦ absurd (cc (gives, keeps))
      | inr not ↦ not
    ],
  )

  -- and one that is in use is so still
  pub still_in_use : gives_back again n e.deed ≡ false → in_use again n log ≡ true → in_use again n (e ∷ log) ≡ true
  still_in_use keeps has = by (comes_with n e.deed) (gives_back again n e.deed) keeps
    where
      by : (q p : Bool) → p ≡ false → (if q then true else (if p then false else in_use again n log)) ≡ true
      by true p e = refl
      by false false e = has
      by false true e = absurd (cc e)

  pub now_in_use : comes_with n e.deed ≡ true → in_use again n (e ∷ log) ≡ true
  now_in_use comes = ap (λ (q : Bool). if q then true else (if gives_back again n e.deed then false else in_use again n log)) comes

module _ {K V : Type 0} where
  -- at first nothing is there of any number
  pub fresh_first : (n : ℕ) → IsFresh n (moment {K = K} {V = V} [])
  fresh_first n = record { no_map = refl; bare = record { no_table = refl; no_pair = λ k is. cc is; no_count = λ s. refl; no_call = tt } }
