-- What the fields of a pool's drawer say of its meaning. Assumes nothing.
use Rattle.std.specs.Prelude.{◌≡◌, ℕ, suc, pred, ◌-◌, ◌<◌, ◌≤◌, length, Some, None, vec_items, vec_len, nat_lt, slice_index_or, slice_set, refl, true, ◌&&◌, nat_le}
use Rattle.std.proofs.Common.{sym, subst, ◌∙◌, arith}
use Rattle.std.proofs.Math.Path.{ap}
use Rattle.std.specs.List.{slice_get}
use Rattle.std.proofs.lemmas.List.{get_or_read_under}
use Rattle.std.proofs.lemmas.Option.{slice_get_past}
use Rattle.std.proofs.lemmas.Bool.{cond-true, lt-ltb, and_parts}
use Rattle.pools.specs.declared.chain.Chain.{Chain}
use Rattle.pools.specs.declared.chain.Link.{Link}
use Rattle.drawers.specs.declared.places.Written.{Written}
use Rattle.pools.specs.declared.pool.PoolMemory.{PoolMemory}
use Rattle.pools.specs.declared.pool.PoolDrawer.{PoolDrawer}
use Rattle.pools.specs.Chains.{tally, no_link, no_chain, chain_at, link_at, owner, Led, Leads}
use Rattle.shelf.specs.declared.size.Size.{Size}
use Rattle.shelf.specs.Meaning.{Version, first_version, version_at, newest}
use Rattle.shelf.specs.Sound.{Sound}
use Rattle.drawers.specs.Fresh.{size_fits}
use Rattle.drawers.specs.Places.{version_in, version_of, Wrote}
use Rattle.shelf.specs.Putting.{added}
use Rattle.pools.specs.Pools.{pool_of}
use Rattle.pools.specs.PoolMeaning.{pool_meaning, pool_fits}
use Rattle.pools.specs.Links.{Knows, from_known, Newest, from_newest, leads_further, owner_kept, chain_new}
use Rattle.pools.specs.PoolsLemmas.{tally_le, pool_length, pool_first, pool_nth, pool_none, pool_sound, pool_added}
use Rattle.drawers.proofs.Spots.{version_read, narrow_in, wrote_other, wrote_here}

abbrev owned : PoolDrawer → ℕ → ℕ
owned s = owner (vec_items s.chains)

abbrev kept_at : PoolDrawer → ℕ → Version
kept_at s = version_in s.places s.size.width

pub pool_cards : (s : PoolDrawer) → (pool_meaning s).cards ≡ s.size.cards
unfolding pool_meaning
pool_cards s = refl

pub pool_width : (s : PoolDrawer) → (pool_meaning s).width ≡ s.size.width
unfolding pool_meaning
pool_width s = refl

-- what fits is within the limits
pub fits_within : (m : PoolMemory) (size : Size) → pool_fits m size ≡ true → size_fits 65535 size ≡ true
fits_within m size fits =
    let roomy = nat_le size.cards (vec_len m.newest) && (nat_le size.places (vec_len m.chains) && nat_le size.places (vec_len m.places.written)) in
    (and_parts (size_fits 65535 size) roomy fits).0

pub sound : (s : PoolDrawer) → Sound (pool_meaning s)
unfolding pool_meaning
sound s =
    pool_sound s.size.cards s.size.width s.size.places s.used (owned s) (kept_at s) s.few s.narrow s.sized s.filled (narrow_in s.places s.size.width)

-- what stands beside a place
pub chain_read : (s : PoolDrawer) (q : ℕ) (x : Chain) → q < s.used → x ≡ slice_index_or (vec_items s.chains) q x → x ≡ chain_at (vec_items s.chains) q
chain_read s q x h read =
    get_or_read_under (vec_items s.chains) q (vec_len s.chains) x no_chain read (omega (arith, s.filled, s.chained)) s.chains.ok.0

pub chain_known : (s : PoolDrawer) (q : ℕ) → q < s.used → Knows (vec_items s.chains) q
chain_known s q h = from_known (vec_items s.chains) q (s.linked q h)

-- from a version above 0, both links lead to older versions of its card
pub record Back (s : PoolDrawer) (c : ℕ) (l : Link) (x : Chain) : Type 0 where
  pub older_told : suc x.older.number ≡ l.number
  pub older : Leads (vec_items s.chains) s.used c x.older
  pub jump_told : x.jump.number < l.number
  pub jump : Leads (vec_items s.chains) s.used c x.jump

pub back : (s : PoolDrawer) (c : ℕ) (l : Link) (x : Chain) → Led (vec_items s.chains) s.used c l → x ≡ slice_index_or (vec_items s.chains) l.place x → Back s c l x
back s c l x led read =
    let cs = vec_items s.chains in
    let q = l.place in
    let is = chain_read s q x led.below read in
    let k = chain_known s q led.below in
    let told : suc (tally (owner cs) (owner cs q) q) ≡ l.number = ap (λ d. suc (tally (owner cs) d q)) led.owned ∙ led.told in
    let here : (y : Link) → Leads cs q (owner cs q) y → Leads cs s.used c y =
    λ y a. leads_further cs q s.used c y (omega (arith, led.below)) (subst (λ d. Leads cs q d y) led.owned a) in
    record {
      older_told = ap (λ y. suc y.older.number) is ∙ ap suc k.older_told ∙ told;
      older = subst (λ y. Leads cs s.used c y.older) (sym is) (here (chain_at cs q).older k.older);
      jump_told = omega (arith, ap (λ y. y.jump.number) is, k.jump_told, told);
      jump = subst (λ y. Leads cs s.used c y.jump) (sym is) (here (chain_at cs q).jump k.jump);
    }

module _ (s : PoolDrawer) (c : ℕ) (listed : c < s.size.cards) where
  abbrev newest_link : Link
  newest_link = link_at (vec_items s.newest) c

  pub newest_there : Newest (vec_items s.chains) s.used (vec_items s.newest) c
  newest_there = from_newest (vec_items s.chains) s.used (vec_items s.newest) c (s.current c listed)

  pub pool_free : (pool_meaning s).free c ≡ s.size.places - s.used
  unfolding pool_meaning
  pool_free = cond-true (nat_lt c s.size.cards) (s.size.places - s.used) 0 (lt-ltb c s.size.cards listed)

  pub pool_versions : length ((pool_meaning s).line c) ≡ suc newest_link.number
  unfolding pool_meaning
  pool_versions = pool_length s.size.cards s.size.width s.size.places s.used (owned s) (kept_at s) c listed ∙ ap suc (sym newest_there.told)

  pub pool_version_0 : version_at (pool_meaning s) c 0 ≡ Some first_version
  unfolding pool_meaning
  pool_version_0 = pool_first s.size.cards s.size.width s.size.places s.used (owned s) (kept_at s) c listed

  pub pool_version_none : (k : ℕ) → newest_link.number < k → version_at (pool_meaning s) c k ≡ None
  pool_version_none k past = slice_get_past ((pool_meaning s).line c) k (omega (arith, pool_versions))

  pub pool_newest : newest (pool_meaning s) c ≡ newest_link.number
  unfolding pool_meaning
  pool_newest = ap pred pool_versions

  pub number_small : newest_link.number ≤ s.used
  number_small = omega (arith, newest_there.told, tally_le (owned s) (kept_at s) c s.used)

  -- what was read of a version
  pub pool_version : (l : Link) (t : Written) → Led (vec_items s.chains) s.used c l → t ≡ slice_index_or (vec_items s.places.written) l.place t →
      version_at (pool_meaning s) c l.number ≡ Some (version_of s.size.width t)
  unfolding pool_meaning
  pool_version l t led read =
      ap (slice_get ((pool_meaning s).line c)) (sym led.told)
      ∙ pool_nth s.size.cards s.size.width s.size.places s.used (owned s) (kept_at s) c l.place listed led.below led.owned
      ∙ ap Some (version_read s.places s.size.width l.place t (omega (arith, led.below, s.filled, s.written)) read)

  -- the link that was read
  pub link_read : (x : Link) → x ≡ slice_index_or (vec_items s.newest) c x → x ≡ newest_link
  link_read x read = get_or_read_under (vec_items s.newest) c (vec_len s.newest) x no_link read (omega (arith, s.listed)) s.newest.ok.0

-- a card that the shelf lacks has no version
pub pool_absent : (s : PoolDrawer) (c k : ℕ) → s.size.cards ≤ c → version_at (pool_meaning s) c k ≡ None
unfolding pool_meaning
pool_absent s c k past = ap (λ l. slice_get l k) (pool_none s.size.cards s.size.width s.size.places s.used (owned s) (kept_at s) c past)

-- the shelf with one version more
module _ (s s' : PoolDrawer) (y : Chain) (t : Written) (listed : y.card.0 < s.size.cards) (free : s.used < s.size.places)
    (size : s'.size ≡ s.size) (used : s'.used ≡ suc s.used)
    (chains : vec_items s'.chains ≡ slice_set (vec_items s.chains) s.used y)
    (wrote : Wrote s.places s'.places s.used t) where
  pub pool_with : pool_meaning s' ≡ added (pool_meaning s) y.card.0 (version_of s.size.width t)
  unfolding pool_meaning
  pool_with =
      let cs = vec_items s.chains in
      let n = s.used in
      let w = s.size.width in
      let long : n < length cs = omega (arith, s.chained, s.chains.ok.0) in
      let at = version_in s'.places w in
      (λ z. pool_of (size z).cards (size z).width (size z).places (used z) (owner (chains z)) (version_in s'.places (size z).width))
      ∙ pool_added s.size.cards w s.size.places n (owned s) (owner (slice_set cs n y)) (kept_at s) at y.card.0 (version_of w t) listed free
      (ap (λ z. z.card.0) (chain_new cs n y long))
      (owner_kept cs n y long)
      (wrote_here s.places s'.places w n t wrote (omega (arith, s.written)))
      (λ k h. wrote_other s.places s'.places w n t wrote k (λ e. omega arith))
