-- In blocking mode, a caller claims so many places of the root, to copy them.
use Rattle.std.proofs.Common.{◌≡◌, ◌≢◌, ℕ, ◌+◌, ◌<◌, Bool, true, false, cond, eqb, leb, ltb, ◌&&◌, refl, arith, ap, sym, ◌∙◌, subst}
use Rattle.std.proofs.lemmas.Bool.Decides.{nat_tests}
use Rattle.map_machines.specs.Given.TablesDeclared.status.TheConstants.Status.{ABORTED}
use Rattle.map_rule.specs.Chart.{Phase, Copying, Holds, Share, Free, Claimed, Lost, Chart, put, is_counted}
use Rattle.map_rule.specs.Rule.{is_past, is_over, is_free, Common, Blocking, Rule, IsLawful}
use Rattle.map_rule.specs.Moves.{Claims, claimed, is_of_caller, after, Allowed}
use Rattle.map_rule.specs.Lasts.{MoveKeeps}
use Rattle.map_rule.proofs.Moves.Totals.{total_same}
use Rattle.map_rule.proofs.Moves.Lasting.{beside_lasts}

-- what becomes of a share of table u, where places are claimed for table t
data Change (share new : Share) (caller u t : ℕ) : Type 0 where
  Unchanged : new ≡ share → Change share new caller u t
  NewlyClaimed : share ≡ Free → new ≡ Claimed caller → u ≡ t → Change share new caller u t

same_counted : (share new : Share) (caller u t : ℕ) → Change share new caller u t → is_counted new ≡ is_counted share
same_counted share new caller u t (Unchanged e) = grind arith
same_counted share new caller u t (NewlyClaimed e f g) = grind arith

still_over : (share new : Share) (caller u t : ℕ) → Change share new caller u t → is_over share ≡ true → is_over new ≡ true
still_over share new caller u t (Unchanged e) h = grind arith
still_over share new caller u t (NewlyClaimed e f g) h = grind arith

past_before : (share new : Share) (caller u t : ℕ) → Change share new caller u t → is_past new ≡ true → is_past share ≡ true
past_before share new caller u t (Unchanged e) h = grind arith
past_before share new caller u t (NewlyClaimed e f g) h = grind arith

still_lost : (share new : Share) (caller u t : ℕ) → Change share new caller u t → share ≡ Lost → new ≡ Lost
still_lost share new caller u t (Unchanged e) h = cc
still_lost share new caller u t (NewlyClaimed e f g) h = cc

of_others : (share new : Share) (caller u t other : ℕ) → Change share new caller u t → is_of_caller other share ≡ true → new ≡ share
of_others share new caller u t other (Unchanged e) h = e
of_others share new caller u t other (NewlyClaimed e f g) h = absurd (grind arith)

elsewhere : (share new : Share) (caller u t : ℕ) → Change share new caller u t → u ≢ t → new ≡ share
elsewhere share new caller u t (Unchanged e) h = e
elsewhere share new caller u t (NewlyClaimed e f g) h = absurd (h g)

is_free_share : (share : Share) → is_free share ≡ true → share ≡ Free
is_free_share share e = grind arith

-- of the places from the claim on, so many are claimed
change : (share : Share) (caller u t : ℕ) (here within : Bool) → (here ≡ true → u ≡ t) → (here ≡ true → within ≡ true → share ≡ Free)
    → Change share (cond here (cond within (Claimed caller) share) share) caller u t
change share caller u t false within h f = Unchanged refl
change share caller u t true false h f = Unchanged refl
change share caller u t true true h f = NewlyClaimed (f refl refl) refl (h refl)

-- then those from the next claim on are free
still_claims : (share : Share) (caller u t first claim claim_here chunk j len : ℕ) → (u ≡ t → claim_here ≡ claim) → first < u → j < len → is_free share ≡ leb claim_here j
    → is_free (cond (eqb u t && ltb first t) (cond (leb claim j && ltb j (claim + chunk) && ltb j len) (Claimed caller) share) share) ≡ leb (cond (eqb u t) (claim + chunk) claim_here) j
still_claims share caller u t first claim claim_here chunk j len same_claim behind l h = grind (arith, nat_tests)

module _ {K : Type 0} (same : K → K → Bool) (spot : ℕ → K → ℕ → ℕ) where
  -- the places from the claim on are free
  pub free : (caller t chunk : ℕ) (c : Chart K) → Rule same spot false c → Allowed same spot false (Claims caller t chunk) c
      → (u j : ℕ) → u ≡ t → c.first < t → (leb (c.claim t) j && ltb j (c.claim t + chunk) && ltb j (c.len c.first)) ≡ true → c.share u j ≡ Free
  free caller t chunk c rule allowed u j here behind within =
      let below : j < c.len c.first = grind (arith, nat_tests) in
      let from : leb (c.claim t) j ≡ true = grind (arith, nat_tests) in
      let claims = rule.in_mode.claims t j behind allowed.1 below in
      subst (λ (v : ℕ). c.share v j ≡ Free) (sym here) (is_free_share (c.share t j) (claims ∙ from))

  -- each share after the claim
  changes : (caller t chunk : ℕ) (c : Chart K) → Rule same spot false c → Allowed same spot false (Claims caller t chunk) c
      → (u j : ℕ) → Change (c.share u j) (claimed spot false c caller t chunk u j) caller u t
  changes caller t chunk c rule allowed u j = change (c.share u j) caller u t (eqb u t && ltb c.first t) (leb (c.claim t) j && ltb j (c.claim t + chunk) && ltb j (c.len c.first))
      (λ here. (both here).0) (λ here. free caller t chunk c rule allowed u j (both here).0 (both here).1)
    where
      both : (eqb u t && ltb c.first t) ≡ true → (u ≡ t) × (c.first < t)
      both here = (grind (arith, nat_tests, here), grind (arith, nat_tests, here))

  targets : (caller t chunk : ℕ) (c : Chart K) → Rule same spot false c → Allowed same spot false (Claims caller t chunk) c
      → (u i n : ℕ) (phase : Phase) (borrowed : Bool) → c.first < u → c.status u ≢ ABORTED → c.place u i ≡ Holds n phase borrowed
      → (j : ℕ) × (j < c.len c.first) × (c.place c.first j ≡ Holds n Copying false) × (is_over (claimed spot false c caller t chunk u j) ≡ true)
  targets caller t chunk c rule allowed u i n phase borrowed l a e =
      let r = rule.in_mode.targets u i n phase borrowed l a e in
      (r.0, r.1, r.2, still_over _ _ caller u t (changes caller t chunk c rule allowed u r.0) r.3)

  given_up : (caller t chunk : ℕ) (c : Chart K) → Rule same spot false c → Allowed same spot false (Claims caller t chunk) c
      → (u : ℕ) → c.first < u → c.status u ≡ ABORTED → (j : ℕ) × (j < c.len c.first) × (claimed spot false c caller t chunk u j ≡ Lost)
  given_up caller t chunk c rule allowed u l e =
      let r = rule.in_mode.given_up u l e in
      (r.0, r.1, still_lost _ _ caller u t (changes caller t chunk c rule allowed u r.0) r.2)

  kept_common : (caller t chunk : ℕ) (c : Chart K) → Rule same spot false c → Allowed same spot false (Claims caller t chunk) c
      → Common same spot false (after spot false (Claims caller t chunk) c)
  kept_common caller t chunk c rule allowed = record {
    rooted = rule.common.rooted;
    rootless = rule.common.rootless;
    lens = rule.common.lens;
    unmade = rule.common.unmade;
    unshared = λ u j l. elsewhere _ _ caller u t (changes caller t chunk c rule allowed u j) (λ e. omega (arith, allowed.1)) ∙ rule.common.unshared u j l;
    uncounted = λ u l. grind (arith, rule.common.uncounted u l, allowed.1);
    outside = rule.common.outside;
    keyed = rule.common.keyed;
    unstored = rule.common.unstored;
    on_path = rule.common.on_path;
    once = rule.common.once;
    unmarked = rule.common.unmarked;
    pending = rule.common.pending;
    live = rule.common.live;
    counts = λ u l m. rule.common.counts u l m
        ∙ sym (total_same is_counted (c.share u) (claimed spot false c caller t chunk u) (c.len c.first) (λ j b. same_counted _ _ caller u t (changes caller t chunk c rule allowed u j)));
    stands = rule.common.stands;
    is_current = rule.common.is_current;
  }

  kept_mode : (caller t chunk : ℕ) (c : Chart K) → Rule same spot false c → Allowed same spot false (Claims caller t chunk) c
      → Blocking same spot false (after spot false (Claims caller t chunk) c)
  kept_mode caller t chunk c rule allowed = record {
    marked_has_next = rule.in_mode.marked_has_next;
    plain = rule.in_mode.plain;
    targets = targets caller t chunk c rule allowed;
    copies = λ u j l a e. rule.in_mode.copies u j l a (past_before _ _ caller u t (changes caller t chunk c rule allowed u j) e);
    claims = λ u j l m b. still_claims (c.share u j) caller u t c.first (c.claim t) (c.claim u) chunk j (c.len c.first) (λ e. ap c.claim e) l b (rule.in_mode.claims u j l m b);
    sources = rule.in_mode.sources;
    left = rule.in_mode.left;
    no_tombstone = rule.in_mode.no_tombstone;
    aborted = rule.in_mode.aborted;
    given_up = given_up caller t chunk c rule allowed;
  }

  pub kept_claims_blocking : (caller t chunk : ℕ) (c : Chart K) → IsLawful same spot → Rule same spot false c → Allowed same spot false (Claims caller t chunk) c
      → MoveKeeps same spot false (Claims caller t chunk) c
  kept_claims_blocking caller t chunk c lawful rule allowed = (
    record { common = kept_common caller t chunk c rule allowed; in_mode = kept_mode caller t chunk c rule allowed },
    beside_lasts same spot false c c.status (put c.claim t (c.claim t + chunk)) c.copied (claimed spot false c caller t chunk),
    λ i u j f e. of_others _ _ caller u t i (changes caller t chunk c rule allowed u j) e,
  )
