-- A pair leaves its map, and one comes in: how the map's pairs are shown then.
use Rattle.std.specs.Prelude.{◌≡◌, ◌≢◌, ℕ, suc, ◌+◌, ◌<◌, ◌≤◌, true, false, List, [], ◌∷◌, ◌++◌, length, Option, Some, None, ◌⊎◌}
use Rattle.std.proofs.Common.{refl, ap, sym, subst, ◌∙◌, arith, inl, inr}
use Rattle.std.proofs.lemmas.Bool.{eq-eqb, cases_eq, cases_lt}
use Rattle.std.proofs.lemmas.List.{length-append}
use Rattle.seize_words.specs.OneMemory.Mem.{Mem, value_at}
use Rattle.run_effects.specs.Given.TablesDeclared.node.Node.{Node}
use Rattle.run_effects.specs.Given.TablesDeclared.node.Node.TheVariants as node
use Rattle.run_effects.specs.Given.RunsDeclared.effect.Effect.TheVariants.{Stored}
use Rattle.run_effects.specs.Given.RunsDeclared.effect.Spot.{Spot}
use Rattle.run_effects.specs.Given.RunsDeclared.effect.TableId.{TableId}
use Rattle.run_effects.specs.Given.SchedulesEffects.{stored_by}
use Rattle.run_effects.specs.Given.SchedulesLists.{put}
use Rattle.run_effects.specs.Given.SchedulesMoment.{Place, InMap, Out, UnderWay, Moment}
use Rattle.run_effects.specs.Given.SchedulesViews.{is_in_map}
use Rattle.many_maps.specs.Maps.{Standing}
use Rattle.run_effects.specs.Effects.Known.{Known}
use Rattle.run_effects.specs.declared.role.Role.TheVariants as role
use Rattle.run_shows.specs.Follows.Maps.{table_of, RefinesPairs}
use Rattle.run_shows.specs.Follows.Steps.{HasPair}
use Rattle.run_shows.proofs.Follows.Alike.{put_here, put_elsewhere}
use Rattle.run_shows.proofs.Follows.Onward.{IsLasting, KeepsRoles, StaysBlocks}

-- one pair more was stored, which a block holds
abbrev pub StoresOne : {K V : Type 0} → Mem (Node K V) → ℕ → List (K × V) → List (K × V) → Type 0
StoresOne {K} {V} memory b before after = (k : K) × (v : V) × (after ≡ before ++ (k, v) ∷ []) × (value_at memory b ≡ Some (node.Pair k v))

pub stored_one : {K V : Type 0} (memory : Mem (Node K V)) (b : ℕ) (o : Option (UnderWay K V)) (n : ℕ) (s : Spot) (stored : List (K × V)) → HasPair memory b o (Stored n s)
    → StoresOne memory b stored (stored_by o (Stored n s) stored)
stored_one memory b None n s stored has = absurd has
stored_one memory b (Some c) n s stored has = (has.0, has.1, ap (λ ps. stored ++ ps) has.2, has.3)

pub one_more_stored : {K V : Type 0} (memory : Mem (Node K V)) (b : ℕ) (before after : List (K × V)) → StoresOne memory b before after → length after ≡ length before + 1
one_more_stored memory b before after one = ap length one.2 ∙ length-append before ((one.0, one.1) ∷ [])

module _ {K V : Type 0} (map : ℕ) (number : ℕ → ℕ) (s s2 : Standing K) (m v : Moment K V) (known known2 : Known)
    (blocks : StaysBlocks s.chart s.blocks s2.blocks) (keeps : KeepsRoles known known2) (shown : RefinesPairs map number s m known) where
  -- other pairs have other numbers
  apart : (n o : ℕ) → n < s.chart.stored → o < s.chart.stored → n ≢ o → number n ≢ number o
  apart n o l l2 ne e = elim (cases_lt n o) as (λ _. ⊥) [
    | inl less ↦ (let r = shown.rising n o less l2 in omega (arith, r, e))
    | inr more ↦ (let r = shown.rising o n (omega (arith, more, ne)) l in omega (arith, r, e))
  ]

  role_on : (n : ℕ) → n < s.chart.stored → s2.blocks.pair_known n ≡ true → known2.roles (s2.blocks.pair n) ≡ role.Pair (number n)
  role_on n l seen =
      let k = blocks.pairs n l seen in
      let was = shown.roles n l k.1 in
      ap known2.roles k.0 ∙ keeps (s.blocks.pair n) (subst IsLasting (sym was) tt) ∙ was

  module _ (p : ℕ) (there : p < s.chart.stored) (place : v.place ≡ put (number p) Out m.place) (born : v.born ≡ m.born) (as_many : length v.stored ≡ length m.stored)
      (stored : s2.chart.stored ≡ s.chart.stored) (gone : s2.chart.current p ≡ false) (others : (n : ℕ) → n < s.chart.stored → n ≢ p → s2.chart.current n ≡ s.chart.current n) where
    before : (n : ℕ) → n < s2.chart.stored → n < s.chart.stored
    before n l = omega (arith, l, stored)

    out_here : (n : ℕ) → n < s.chart.stored → is_in_map map (v.place (number n)) ≡ s2.chart.current n
    out_here n l = ap (λ (f : ℕ → Place). is_in_map map (f (number n))) place ∙ (elim (cases_eq n p) as (λ _. is_in_map map (put (number p) Out m.place (number n)) ≡ s2.chart.current n) [
      | inl e ↦ ap (is_in_map map) (put_here (number p) Out m.place (number n) (ap number e)) ∙ sym gone ∙ sym (ap s2.chart.current e)
      | inr ne ↦ ap (is_in_map map) (put_elsewhere (number p) Out m.place (number n) (apart n p l there ne)) ∙ shown.here n l ∙ sym (others n l ne)
    ])

    out_all : (k : ℕ) → v.place k ≡ InMap map → m.place k ≡ InMap map
    out_all k at = elim (cases_eq k (number p)) as (λ _. m.place k ≡ InMap map) [
      | inl e ↦ absurd (let never : Out ≡ InMap map = sym (put_here (number p) Out m.place k e) ∙ ap (λ (f : ℕ → Place). f k) (sym place) ∙ at in cc never)
      | inr ne ↦ sym (put_elsewhere (number p) Out m.place k ne) ∙ ap (λ (f : ℕ → Place). f k) (sym place) ∙ at
    ]

    -- a pair has left
    pub goes_out : RefinesPairs map number s2 v known2
    goes_out = record {
      roles = λ n l seen. role_on n (before n l) seen;
      numbered = λ n l. let k = shown.numbered n (before n l) in (k.0, let le = k.1 in omega (arith, le, as_many));
      rising = λ n o l lo. shown.rising n o l (before o lo);
      born = λ n l. ap (λ (f : ℕ → TableId). (f (number n)).map) born ∙ shown.born n (before n l);
      here = λ n l. out_here n (before n l);
      all = λ k at. let q = shown.all k (out_all k at) in (q.0, (let l = q.1 in omega (arith, l, stored)), q.2);
    }

  module _ (new turn : ℕ) (is_next : new ≡ length m.stored + 1) (place : v.place ≡ put new (InMap map) m.place) (born : v.born ≡ put new (table_of map turn) m.born)
      (one_more : length v.stored ≡ length m.stored + 1) (stored : s2.chart.stored ≡ suc s.chart.stored)
      (current : s2.chart.current s.chart.stored ≡ true) (others : (n : ℕ) → n < s.chart.stored → s2.chart.current n ≡ s.chart.current n)
      (its_role : known2.roles (s2.blocks.pair s.chart.stored) ≡ role.Pair new) where
    abbrev pub number_then : ℕ → ℕ
    number_then = put s.chart.stored new number

    cases : (n : ℕ) → n < s2.chart.stored → (n ≡ s.chart.stored) ⊎ ((n < s.chart.stored) × (n ≢ s.chart.stored))
    cases n l = elim (cases_eq n s.chart.stored) [
      | inl e ↦ inl e
      | inr ne ↦ inr (omega (arith, l, stored, ne), ne)
    ]

    new_number : (n : ℕ) → n ≡ s.chart.stored → number_then n ≡ new
    new_number n e = put_here s.chart.stored new number n e

    old_number : (n : ℕ) → n ≢ s.chart.stored → number_then n ≡ number n
    old_number n ne = put_elsewhere s.chart.stored new number n ne

    old_less : (n : ℕ) → n < s.chart.stored → number n < new
    old_less n l = let k = (shown.numbered n l).1 in omega (arith, k, is_next)

    old_apart : (n : ℕ) → n < s.chart.stored → number n ≢ new
    old_apart n l e = let less = old_less n l in omega (arith, less, e)

    in_roles : (n : ℕ) → n < s2.chart.stored → s2.blocks.pair_known n ≡ true → known2.roles (s2.blocks.pair n) ≡ role.Pair (number_then n)
    in_roles n l seen = elim (cases n l) as (λ _. known2.roles (s2.blocks.pair n) ≡ role.Pair (number_then n)) [
      | inl e ↦ ap (λ (x : ℕ). known2.roles (s2.blocks.pair x)) e ∙ its_role ∙ ap role.Pair (sym (new_number n e))
      | inr k ↦ role_on n k.0 seen ∙ ap role.Pair (sym (old_number n k.1))
    ]

    in_numbered : (n : ℕ) → n < s2.chart.stored → (0 < number_then n) × (number_then n ≤ length v.stored)
    in_numbered n l = elim (cases n l) as (λ _. (0 < number_then n) × (number_then n ≤ length v.stored)) [
      | inl e ↦ (let is = new_number n e in (omega (arith, is, is_next), omega (arith, is, is_next, one_more)))
      | inr k ↦ (let is = old_number n k.1 in let was = shown.numbered n k.0 in let pos = was.0 in let le = was.1 in (omega (arith, is, pos), omega (arith, is, le, one_more)))
    ]

    in_rising : (n o : ℕ) → n < o → o < s2.chart.stored → number_then n < number_then o
    in_rising n o less l = elim (cases o l) as (λ _. number_then n < number_then o) [
      | inl e ↦ (let is = new_number o e in let was = old_number n (omega (arith, less, e)) in let low = old_less n (omega (arith, less, e)) in omega (arith, is, was, low))
      | inr k ↦ (let lo = k.0 in let is = old_number o k.1 in let was = old_number n (omega (arith, less, lo)) in let r = shown.rising n o less lo in omega (arith, is, was, r))
    ]

    in_born : (n : ℕ) → n < s2.chart.stored → (v.born (number_then n)).map ≡ map
    in_born n l = ap (λ (f : ℕ → TableId). (f (number_then n)).map) born ∙ (elim (cases n l) as (λ _. (put new (table_of map turn) m.born (number_then n)).map ≡ map) [
      | inl e ↦ ap (λ (t : TableId). t.map) (put_here new (table_of map turn) m.born (number_then n) (new_number n e))
      | inr k ↦ (let is = old_number n k.1 in
          ap (λ (t : TableId). t.map) (put_elsewhere new (table_of map turn) m.born (number_then n) (λ e. old_apart n k.0 (sym is ∙ e))) ∙ ap (λ (x : ℕ). (m.born x).map) is ∙ shown.born n k.0)
    ])

    in_here : (n : ℕ) → n < s2.chart.stored → is_in_map map (v.place (number_then n)) ≡ s2.chart.current n
    in_here n l = ap (λ (f : ℕ → Place). is_in_map map (f (number_then n))) place ∙ (elim (cases n l) as (λ _. is_in_map map (put new (InMap map) m.place (number_then n)) ≡ s2.chart.current n) [
      | inl e ↦ ap (is_in_map map) (put_here new (InMap map) m.place (number_then n) (new_number n e)) ∙ eq-eqb map map refl ∙ sym current ∙ sym (ap s2.chart.current e)
      | inr k ↦ (let is = old_number n k.1 in
          ap (is_in_map map) (put_elsewhere new (InMap map) m.place (number_then n) (λ e. old_apart n k.0 (sym is ∙ e))) ∙ ap (λ (x : ℕ). is_in_map map (m.place x)) is ∙ shown.here n k.0 ∙ sym (others n k.0))
    ])

    in_all : (k : ℕ) → v.place k ≡ InMap map → (n : ℕ) × (n < s2.chart.stored) × (k ≡ number_then n)
    in_all k at = elim (cases_eq k new) as (λ _. (n : ℕ) × (n < s2.chart.stored) × (k ≡ number_then n)) [
      | inl e ↦ (s.chart.stored, omega (arith, stored), e ∙ sym (new_number s.chart.stored refl))
      | inr ne ↦ (let q = shown.all k (sym (put_elsewhere new (InMap map) m.place k ne) ∙ ap (λ (f : ℕ → Place). f k) (sym place) ∙ at) in let l = q.1 in
          (q.0, omega (arith, l, stored), q.2 ∙ sym (old_number q.0 (omega (arith, l)))))
    ]

    -- a pair has come in
    pub comes_in : RefinesPairs map number_then s2 v known2
    comes_in = record { roles = in_roles; numbered = in_numbered; rising = in_rising; born = in_born; here = in_here; all = in_all }
