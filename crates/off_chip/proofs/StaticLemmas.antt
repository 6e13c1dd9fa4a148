-- What follows of the places of static blocks.
use Rattle.std.proofs.Common.{◌≡◌, ℕ, ◌+◌, ◌-◌, ◌*◌, ◌<◌, ◌≤◌, Bool, true, false, cond, ◌&&◌, leb, ltb, List, Some, None, refl, sym, ap, ◌∙◌, arith}
use Rattle.std.specs.Prelude.{◌↔◌}
use Rattle.std.proofs.lemmas.Bool.{and_parts, leb-true, ltb-true, le-leb, lt-ltb}
use Rattle.aegis_num.specs.declared.storage.Place.{Place}
use Rattle.aegis_num.specs.declared.storage.Place.TheVariants.{Tree, Log}
use Rattle.regions.specs.declared.layout.Layout.{Layout}
use Rattle.regions.specs.Tree.{leaf_of}
use Rattle.off_chip.specs.OffChipBytes.{bytes_at, static_blocks, static_place, static_block}
use Rattle.off_chip.specs.BlockPlaces.{first_static, static_at, IsStatic}

place-static : (layout : Layout) (n : ℕ) → leaf_of layout (layout.verified + layout.private + n) ≡ first_static layout + n
place-static layout n = omega arith

some-cond : {X : Type 0} (b : Bool) (x y : X) → cond b (Some x) None ≡ Some y → (b ≡ true) × (x ≡ y)
some-cond true x y same = (refl, cc)
some-cond false x y same = cc

static-at : (layout : Layout) (statics : List ℕ) (place : Place) (payload : List ℕ) → static_at layout statics place ≡ Some payload → IsStatic layout statics place payload
static-at layout statics (Log m) payload same = cc
static-at layout statics (Tree m) payload same =
    let both = some-cond (leb (first_static layout) m && ltb m (first_static layout + static_blocks layout)) (bytes_at (64 * (m - first_static layout)) 64 statics) payload same in
    let parts = and_parts (leb (first_static layout) m) (ltb m (first_static layout + static_blocks layout)) both.0 in
    let from : first_static layout ≤ m = leb-true (first_static layout) m parts.0 in
    let to : m < first_static layout + static_blocks layout = ltb-true m (first_static layout + static_blocks layout) parts.1 in
    let e : m ≡ first_static layout + (m - first_static layout) = omega (arith, from) in
    record {
      n = m - first_static layout;
      below = omega (arith, from, to);
      stands = ap (λ (k : ℕ). Tree k) (e ∙ sym (place-static layout (m - first_static layout)));
      holds = sym both.1;
    }

at-static : (layout : Layout) (statics : List ℕ) (n : ℕ) → n < static_blocks layout → static_at layout statics (static_place layout n) ≡ Some ((static_block statics n).payload)
at-static layout statics n below =
    let e = place-static layout n in
    let low : leb (first_static layout) (first_static layout + n) ≡ true = le-leb (first_static layout) (first_static layout + n) (omega arith) in
    let high : ltb (first_static layout + n) (first_static layout + static_blocks layout) ≡ true =
    lt-ltb (first_static layout + n) (first_static layout + static_blocks layout) (omega (arith, below)) in
    let minus : first_static layout + n - first_static layout ≡ n = omega arith in
    ap (λ (k : ℕ). static_at layout statics (Tree k)) e
    ∙ ap (λ (b : Bool). cond (b && ltb (first_static layout + n) (first_static layout + static_blocks layout)) (Some (bytes_at (64 * (first_static layout + n - first_static layout)) 64 statics)) None) low
    ∙ ap (λ (b : Bool). cond b (Some (bytes_at (64 * (first_static layout + n - first_static layout)) 64 statics)) None) high
    ∙ ap (λ (k : ℕ). Some (bytes_at (64 * k) 64 statics)) minus

pub static_at-is : (layout : Layout) (statics : List ℕ) (place : Place) (payload : List ℕ) → (static_at layout statics place ≡ Some payload) ↔ IsStatic layout statics place payload
static_at-is layout statics place payload = (
  static-at layout statics place payload,
  λ is. ap (λ (p : Place). static_at layout statics p) is.stands ∙ at-static layout statics is.n is.below ∙ ap (λ (xs : List ℕ). Some xs) (sym is.holds),
)
