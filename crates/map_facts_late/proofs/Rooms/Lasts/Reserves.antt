-- What a reservation knows lasts over steps of others. Where the root leaves its table, in blocking mode, it knows what is to be known then.
use Rattle.std.proofs.Common.{◌≡◌, ℕ, suc, ◌≤◌, Bool, true, false, cond, ◌⊎◌, inl, inr, refl, arith, sym, subst}
use Rattle.std.proofs.lemmas.Bool.{cases_lt}
use Rattle.map_facts.specs.Given.SeizeWordsDeclared.at.At.TheVariants.{Root}
use Rattle.map_facts.specs.Given.SeizeWorld.{World}
use Rattle.map_facts.specs.Given.TablesChunks.{is_incremental}
use Rattle.map_facts.specs.Given.TablesDeclared.node.Node.{Node}
use Rattle.map_facts.specs.Given.TablesDeclared.setting.Setting.{Setting}
use Rattle.map_facts.specs.Given.TablesDeclared.table.Table.{Table}
use Rattle.map_facts.specs.Given.ResizeDeclared.copier.Copier.{Copier}
use Rattle.map_facts.specs.Given.ResizeDeclared.copier.Copying.{Copying}
use Rattle.map_facts.specs.Given.ResizeDeclared.copier.Copying.TheVariants as copies
use Rattle.map_facts.specs.Given.ReservesDeclared.reserve.Reserve.{Reserve}
use Rattle.map_facts.specs.Given.ReservesDeclared.reserve.Reserving.{Reserving}
use Rattle.map_facts.specs.Given.ReservesDeclared.reserve.Reserving.TheVariants as at
use Rattle.map_facts.specs.Given.RuleChart.{Chart}
use Rattle.map_facts.specs.Given.RuleRule.{IsLawful, Rule}
use Rattle.map_facts.specs.Given.RuleWords.{Blocks}
use Rattle.map_facts.specs.Given.RuleMaps.{spot_of, IsTable}
use Rattle.map_facts.specs.Given.RuleMoments.{Moments}
use Rattle.map_facts.specs.Given.RuleInWorld.{IsMapIn}
use Rattle.map_facts.specs.FactsCopies.{HasDone, ClaimsNone, CopierFacts}
use Rattle.map_facts.specs.FactsCopiesBlocking.{HasNoShares, CopierFactsBlocking}
use Rattle.map_facts.specs.FactsIdle.{IsIdle}
use Rattle.map_facts.specs.Others.{OthersStep}
use Rattle.map_facts_late.proofs.Known.Copies as incremental
use Rattle.map_facts_late.proofs.Known.Tables.{made_on, first_on, table_on, new_table_on, next_table_on}
use Rattle.map_facts_late.specs.Left.{Left}
use Rattle.map_facts_late.proofs.Lasts.Copiers.{ClaimsStayFew, copier_on, late_copier_idle, late_copier_on}
use Rattle.map_facts_late.proofs.Lasts.Copiers as blocking_mode
use Rattle.map_facts_late.proofs.Lasts.Tables.{left_on, left_now, first_table_on, late_first_on}
use Rattle.map_facts_late.proofs.Lasts.Tables as blocking_tables
use Rattle.map_facts.specs.Steps.{AreLawful}
use Rattle.map_facts_late.specs.FactsReserves.{CopiesPairs, IsRoot, IsEnding, CopiesWhole, ReservingFacts, ReserveFacts}
use Rattle.map_facts_late.specs.LateReserves.{IsLeftTable, SupersededReserving, SupersededReserveFacts}
use Rattle.map_facts_late.specs.LastsReserves.{ReservesKnowOn}
use Rattle.map_facts_late.proofs.Rooms.Late.Copies.{whole_blocking}
use Rattle.map_facts_late.proofs.Rooms.Late.LatesOn.{none_in}

module _ {K V : Type 0} (same : K → K → Bool) (hash : K → ℕ) (setting : Setting) (caller : ℕ) (w w2 : World (Node K V)) (c c2 : Chart K) (blocks blocks2 : Blocks)
    (map : IsMapIn same hash setting w c blocks) (map2 : IsMapIn same hash setting w2 c2 blocks2) (others : OthersStep same hash setting caller w c blocks w2 c2 blocks2) where
  table_then : (table : Table) (t : ℕ) → IsTable c blocks table t → IsTable c2 blocks2 table t
  table_then = table_on same hash setting caller w w2 c c2 blocks blocks2 others

  abbrev IdleIn : World (Node K V) → Chart K → Blocks → Bool → Type 0
  IdleIn w c blocks b = cond b (HasDone same hash w caller setting c blocks 0 × ClaimsNone same hash w caller setting c blocks) (HasNoShares same hash w caller setting c blocks)

  abbrev WholeIn : World (Node K V) → Chart K → Blocks → Copier → Bool → Type 0
  WholeIn w c blocks copier b =
      cond b ((copier.whole ≡ true) × CopierFacts same hash w caller setting c blocks copier × IsEnding same hash w caller setting c blocks copier copier.stands)
      (CopierFactsBlocking same hash w caller setting c blocks copier)

  abbrev RootIn : Chart K → ℕ → Bool → Type 0
  RootIn c t b = cond b (t ≤ c.first) (t ≡ c.first)

  -- in incremental mode it knows on what it knows
  module _ (lawful : IsLawful same (spot_of hash)) (bits : is_incremental setting.mode ≡ true) where
    rule : Rule same (spot_of hash) true c
    rule = subst (λ (x : Bool). Rule same (spot_of hash) x c) bits map.map.rule

    rule2 : Rule same (spot_of hash) true c2
    rule2 = subst (λ (x : Bool). Rule same (spot_of hash) x c2) bits map2.map.rule

    idle_then : IsIdle same hash w caller setting c blocks → IsIdle same hash w2 caller setting c2 blocks2
    idle_then h =
        subst (IdleIn w2 c2 blocks2) (sym bits)
        (incremental.idle_on same hash lawful setting bits caller w w2 c c2 blocks blocks2 rule map.map.shows.named (λ t made known. (map.map.shows.tables t made known).value) rule2 others
        (subst (IdleIn w c blocks) bits h))

    upto_then : (t : ℕ) → t ≤ c.first → t ≤ c2.first
    upto_then = first_on same hash setting caller w w2 c c2 blocks blocks2 others

    root_then : (t : ℕ) → IsRoot same hash w caller setting c blocks t → IsRoot same hash w2 caller setting c2 blocks2 t
    root_then t h = subst (RootIn c2 t) (sym bits) (upto_then t (subst (RootIn c t) bits h))

    ending_then : (copier : Copier) (stands : Copying) → IsEnding same hash w caller setting c blocks copier stands → IsEnding same hash w2 caller setting c2 blocks2 copier stands
    ending_then copier (copies.Retires settle rest) (t, there, root) = (t, table_then copier.target t there, upto_then t root)
    ending_then copier copies.Over (t, there, root) = (t, table_then copier.target t there, upto_then t root)
    ending_then copier _ h = tt

    pub whole_then : (copier : Copier) → CopiesWhole same hash w caller setting c blocks copier → CopiesWhole same hash w2 caller setting c2 blocks2 copier
    whole_then copier h =
        let f = subst (WholeIn w c blocks copier) bits h in
        subst (WholeIn w2 c2 blocks2 copier) (sym bits) (
          f.0,
          incremental.copier_on same hash lawful setting bits caller w w2 c c2 blocks blocks2 rule map.map.shows.named (λ t made known. (map.map.shows.tables t made known).value) rule2 others copier f.1,
          ending_then copier copier.stands f.2,
        )

    reserving_then : (stage : Reserving) → ReservingFacts same hash w caller setting c blocks stage → ReservingFacts same hash w2 caller setting c2 blocks2 stage
    reserving_then at.Reads h = h
    reserving_then (at.Makes making) h = new_table_on same hash setting bits caller w w2 c c2 blocks blocks2 others (Root setting.root) 0 making h
    reserving_then (at.Sums table sum) ((t, there, root), facts) = ((t, table_then table t there, root_then t root), facts)
    reserving_then (at.Follows table need) ((t, there, root), facts) = ((t, table_then table t there, root_then t root), facts)
    reserving_then (at.Grows table making) (t, there, root, facts) =
        (t, table_then table t there, root_then t root, next_table_on same hash setting bits caller w w2 c c2 blocks blocks2 others t (suc t) there.made there.known making facts)
    reserving_then (at.Copies copier) h = whole_then copier h
    reserving_then at.Over h = h
    reserving_then (at.Refused fault) h = h

    pub knows_incremental : (p : Reserve) → ReserveFacts same hash w caller setting c blocks p → ReserveFacts same hash w2 caller setting c2 blocks2 p
    knows_incremental p h = record { setting_is = h.setting_is; idle = λ other. idle_then (h.idle other); point = reserving_then p.stands h.point }

  -- in blocking mode the root may leave its table
  module _ (blocking : is_incremental setting.mode ≡ false) (moments : Moments (is_incremental setting.mode) c) (began : ℕ) (since : began ≤ c.now) where
    abbrev Fresh : Reserving → Type 0
    Fresh stage = ReservingFacts same hash w2 caller setting c2 blocks2 stage

    abbrev Late : Reserving → Type 0
    Late stage = SupersededReserving same hash w2 caller setting c2 blocks2 began stage

    none_then : HasNoShares same hash w caller setting c blocks → HasNoShares same hash w2 caller setting c2 blocks2
    none_then = blocking_mode.idle_on same hash setting blocking caller w w2 c c2 blocks blocks2 map moments others began since

    -- its table is the root's still, or the root has left it
    at_root : (t : ℕ) → IsRoot same hash w caller setting c blocks t → IsRoot same hash w2 caller setting c2 blocks2 t ⊎ Left c2 began t
    at_root t h = elim (cases_lt c.first c2.first) as (λ _. IsRoot same hash w2 caller setting c2 blocks2 t ⊎ Left c2 began t) [
      | inl on ↦ inr (subst (Left c2 began) (sym was) (left_now same (spot_of hash) (is_incremental setting.mode) caller c c2 others.leaves began since map.map.rule.common.live on))
      | inr still ↦ inl (subst (RootIn c2 t) (sym blocking) (let f = others.leaves.lasts.first in omega (arith, was, still, f)))
    ]
      where
        was : t ≡ c.first
        was = subst (RootIn c t) blocking h

    left_then : (table : Table) → IsLeftTable same hash w caller setting c blocks began table → IsLeftTable same hash w2 caller setting c2 blocks2 began table
    left_then table (t, there, left) = (t, table_then table t there, left_on same (spot_of hash) (is_incremental setting.mode) caller c c2 others.leaves began t left)

    reserving_on : ClaimsStayFew c c2 → (stage : Reserving) → ReservingFacts same hash w caller setting c blocks stage → Fresh stage ⊎ Late stage
    reserving_on few at.Reads h = inl h
    reserving_on few (at.Makes making) h = first_table_on same hash setting blocking caller w w2 c c2 blocks blocks2 others began since map.map.rule.common.live making h
    reserving_on few (at.Sums table sum) ((t, there, root), facts) = elim (at_root t root) as (λ _. Fresh (at.Sums table sum) ⊎ Late (at.Sums table sum)) [
      | inl still ↦ inl ((t, table_then table t there, still), facts)
      | inr left ↦ inr ((t, table_then table t there, left), facts)
    ]
    reserving_on few (at.Follows table need) ((t, there, root), facts) = elim (at_root t root) as (λ _. Fresh (at.Follows table need) ⊎ Late (at.Follows table need)) [
      | inl still ↦ inl ((t, table_then table t there, still), facts)
      | inr left ↦ inr (t, table_then table t there, left)
    ]
    reserving_on few (at.Grows table making) (t, there, root, facts) =
        let facts2 = blocking_tables.next_table_on same hash setting blocking caller w w2 c c2 blocks blocks2 others t (suc t) there.made there.known making facts in
        elim (at_root t root) as (λ _. Fresh (at.Grows table making) ⊎ Late (at.Grows table making)) [
          | inl still ↦ inl (t, table_then table t there, still, facts2)
          | inr left ↦ inr (t, table_then table t there, left, facts2)
        ]
    reserving_on few (at.Copies copier) h =
        elim (copier_on same hash setting blocking caller w w2 c c2 blocks blocks2 map moments others began since few copier (subst (WholeIn w c blocks copier) blocking h))
        as (λ _. Fresh (at.Copies copier) ⊎ Late (at.Copies copier)) [
          | inl fresh ↦ inl (whole_blocking same hash caller setting blocking w2 c2 blocks2 copier fresh)
          | inr late ↦ inr late
        ]
    reserving_on few at.Over h = inl h
    reserving_on few (at.Refused fault) h = inl h

    idle_out : HasNoShares same hash w2 caller setting c2 blocks2 → IsIdle same hash w2 caller setting c2 blocks2
    idle_out h = subst (IdleIn w2 c2 blocks2) (sym blocking) h

    -- it has no part in a copying then
    late_idle : (stage : Reserving) → ((CopiesPairs stage → ⊥) → IsIdle same hash w caller setting c blocks) → Late stage → HasNoShares same hash w2 caller setting c2 blocks2
    late_idle (at.Copies copier) idle h = late_copier_idle same hash w2 caller setting c2 blocks2 began copier copier.stands h.point
    late_idle _ idle h = none_then (none_in same hash caller setting blocking w c blocks (idle (λ z. z)))

    pub knows_blocking : ClaimsStayFew c c2 → (p : Reserve) → ReserveFacts same hash w caller setting c blocks p
        → ReserveFacts same hash w2 caller setting c2 blocks2 p ⊎ SupersededReserveFacts same hash w2 caller setting c2 blocks2 began p
    knows_blocking few p h = elim (reserving_on few p.stands h.point) [
      | inl fresh ↦ inl (record { setting_is = h.setting_is; idle = λ other. idle_out (none_then (none_in same hash caller setting blocking w c blocks (h.idle other))); point = fresh })
      | inr late ↦ inr (record { blocking = blocking; setting_is = h.setting_is; idle = late_idle p.stands h.idle late; point = late })
    ]

    -- and that it knows on
    late_reserving : (stage : Reserving) → SupersededReserving same hash w caller setting c blocks began stage → Late stage
    late_reserving (at.Makes making) h = late_first_on same hash setting blocking caller w w2 c c2 blocks blocks2 others began making h
    late_reserving (at.Sums table sum) (left, facts) = (left_then table left, facts)
    late_reserving (at.Follows table need) left = left_then table left
    late_reserving (at.Grows table making) (t, there, left, facts) = (
      t,
      table_then table t there,
      left_on same (spot_of hash) (is_incremental setting.mode) caller c c2 others.leaves began t left,
      blocking_tables.next_table_on same hash setting blocking caller w w2 c c2 blocks blocks2 others t (suc t) there.made there.known making facts,
    )
    late_reserving (at.Copies copier) h = late_copier_on same hash setting blocking caller w w2 c c2 blocks blocks2 map moments others began since copier h
    late_reserving at.Reads h = absurd h
    late_reserving at.Over h = absurd h
    late_reserving (at.Refused fault) h = absurd h

    pub knows_late : (p : Reserve) → SupersededReserveFacts same hash w caller setting c blocks began p → SupersededReserveFacts same hash w2 caller setting c2 blocks2 began p
    knows_late p h = record { blocking = blocking; setting_is = h.setting_is; idle = none_then h.idle; point = late_reserving p.stands h.point }

-- the promise, by the mode of the map, where claims stay few if they were
module _ {K : Type 0} (V : Type 0) (same : K → K → Bool) (hash : K → ℕ) where
  pub reserves_on : AreLawful same hash → (setting : Setting) (caller : ℕ) (w w2 : World (Node K V)) (c c2 : Chart K) (blocks blocks2 : Blocks)
      → IsMapIn same hash setting w c blocks → IsMapIn same hash setting w2 c2 blocks2 → Moments (is_incremental setting.mode) c → OthersStep same hash setting caller w c blocks w2 c2 blocks2
      → (is_incremental setting.mode ≡ false → ClaimsStayFew c c2) → (began : ℕ) → began ≤ c.now → (p : Reserve)
      → (ReserveFacts same hash w caller setting c blocks p → ReserveFacts same hash w2 caller setting c2 blocks2 p ⊎ SupersededReserveFacts same hash w2 caller setting c2 blocks2 began p)
      × (SupersededReserveFacts same hash w caller setting c blocks began p → SupersededReserveFacts same hash w2 caller setting c2 blocks2 began p)
  reserves_on are setting caller w w2 c c2 blocks blocks2 map map2 moments others few began since p = by (is_incremental setting.mode) refl
    where
      by : (b : Bool) → is_incremental setting.mode ≡ b
          → (ReserveFacts same hash w caller setting c blocks p → ReserveFacts same hash w2 caller setting c2 blocks2 p ⊎ SupersededReserveFacts same hash w2 caller setting c2 blocks2 began p)
          × (SupersededReserveFacts same hash w caller setting c blocks began p → SupersededReserveFacts same hash w2 caller setting c2 blocks2 began p)
      by true bits = (
        λ facts. inl (knows_incremental same hash setting caller w w2 c c2 blocks blocks2 map map2 others are.lawful bits p facts),
        λ late. absurd (let e = late.blocking in cc (bits, e)),
      )
      by false blocking = (
        knows_blocking same hash setting caller w w2 c c2 blocks blocks2 map map2 others blocking moments began since (few blocking) p,
        knows_late same hash setting caller w w2 c c2 blocks blocks2 map map2 others blocking moments began since p,
      )

  pub reserves_know_on : ReservesKnowOn V same hash
  reserves_know_on are setting caller w w2 c c2 blocks blocks2 map map2 moments others few =
      reserves_on are setting caller w w2 c c2 blocks blocks2 map map2 moments others (λ blocking t made before. few blocking t (made_on same hash setting caller w w2 c c2 blocks blocks2 others t made))
