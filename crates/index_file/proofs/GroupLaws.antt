-- Laws of the groups of a layout: the texts are the four groups of terms in a row, and the slices are the four families.
use Rattle.std.proofs.Common.{◌≡◌, ℕ, ◌+◌, ◌*◌, List, ◌++◌, length, take, drop, sym, ap, ◌∙◌, arith, length-append}
use Rattle.std.proofs.lemmas.List.{length-take, length-drop, take_at, drop_at, take-append-drop, drop-drop}
use Rattle.term_numbers.specs.Numbering.{Terms, all_subjects, all_objects, term_table}
use Rattle.index_file.specs.LaidOut.{CanBeLaidOut}
use Rattle.index_file.specs.Layout.{Layout}
use Rattle.index_file.specs.Image.{slices_for, terms_in, group_in}
use Rattle.index_file.specs.declared.family.Family.{Family}
use Rattle.index_file.specs.declared.family.Family.TheVariants.{So, Os, Ps, Po}

-- ---- a list in four parts

four_parts : {X : Type 0} (a b c : ℕ) (xs : List X) → take a xs ++ (take b (drop a xs) ++ (take c (drop (a + b) xs) ++ drop (a + b + c) xs)) ≡ xs
four_parts a b c xs =
    ap (λ r. take a xs ++ (take b (drop a xs) ++ (take c (drop (a + b) xs) ++ r))) (sym (drop-drop c (a + b) xs))
    ∙ ap (λ r. take a xs ++ (take b (drop a xs) ++ r)) (take-append-drop c (drop (a + b) xs))
    ∙ ap (λ r. take a xs ++ (take b (drop a xs) ++ r)) (sym (drop-drop b a xs))
    ∙ ap (λ r. take a xs ++ r) (take-append-drop b (drop a xs))
    ∙ take-append-drop a xs

-- the parts of four lists in a row
record FourAgain {X : Type 0} (p q r s xs : List X) (a b c : ℕ) : Type 0 where
  first : take a xs ≡ p
  second : take b (drop a xs) ≡ q
  third : take c (drop (a + b) xs) ≡ r
  fourth : drop (a + b + c) xs ≡ s

four_again : {X : Type 0} (p q r s : List X) (a b c : ℕ) → length p ≡ a → length q ≡ b → length r ≡ c → FourAgain p q r s (p ++ (q ++ (r ++ s))) a b c
four_again p q r s a b c at_p at_q at_r =
    let one = drop_at p (q ++ (r ++ s)) a at_p in
    let two = sym (drop-drop b a (p ++ (q ++ (r ++ s)))) ∙ ap (drop b) one ∙ drop_at q (r ++ s) b at_q in
    record {
      first = take_at p (q ++ (r ++ s)) a at_p;
      second = ap (take b) one ∙ take_at q (r ++ s) b at_q;
      third = ap (take c) two ∙ take_at r s c at_r;
      fourth = sym (drop-drop c (a + b) (p ++ (q ++ (r ++ s)))) ∙ ap (drop c) two ∙ drop_at r s c at_r;
    }

-- ---- of a layout

-- the term table of the four groups is the texts
pub term_table-terms_in : (l : Layout) → term_table (terms_in l) ≡ l.texts
term_table-terms_in l = four_parts l.shared l.subjects l.objects l.texts

-- and the four families are the slices
pub slices-group_in : (l : Layout) → group_in l So ++ (group_in l Os ++ (group_in l Ps ++ group_in l Po)) ≡ l.slices
slices-group_in l =
    let c = l.predicates in
    let twice : 2 * c ≡ c + c = omega arith in
    (λ i. take c l.slices ++ (take c (drop c l.slices) ++ (take (l.shared + l.objects) (drop (twice i) l.slices) ++ drop (twice i + (l.shared + l.objects)) l.slices)))
    ∙ four_parts c c (l.shared + l.objects) l.slices

-- how many terms each group has
pub record TermCounts (terms : Terms) (l : Layout) : Type 0 where
  pub shared : length terms.shared ≡ l.shared
  pub subjects : length terms.subjects ≡ l.subjects
  pub objects : length terms.objects ≡ l.objects
  pub predicates : length terms.predicates ≡ l.predicates

pub TermCounts-terms_in : (l : Layout) → CanBeLaidOut l → TermCounts (terms_in l) l
TermCounts-terms_in l can =
    let texts = can.texts in
    record {
      shared = omega (arith, length-take l.shared l.texts);
      subjects = omega (arith, length-take l.subjects (drop l.shared l.texts), length-drop l.shared l.texts);
      objects = omega (arith, length-take l.objects (drop (l.shared + l.subjects) l.texts), length-drop (l.shared + l.subjects) l.texts);
      predicates = omega (arith, length-drop (l.shared + l.subjects + l.objects) l.texts);
    }

-- how many subjects and objects there are
pub length-all_subjects : (terms : Terms) → length (all_subjects terms) ≡ length terms.shared + length terms.subjects
length-all_subjects terms = length-append terms.shared terms.subjects

pub length-all_objects : (terms : Terms) → length (all_objects terms) ≡ length terms.shared + length terms.objects
length-all_objects terms = length-append terms.shared terms.objects

-- how many slices each family has
pub length-group_in : (l : Layout) → CanBeLaidOut l → (terms : Terms) → TermCounts terms l → (f : Family) → length (group_in l f) ≡ slices_for f terms
length-group_in l can terms counts So = let slices = can.slices in omega (arith, length-take l.predicates l.slices, counts.predicates)
length-group_in l can terms counts Os = let slices = can.slices in omega (arith, length-take l.predicates (drop l.predicates l.slices), length-drop l.predicates l.slices, counts.predicates)
length-group_in l can terms counts Ps = let slices = can.slices in omega (arith, length-take (l.shared + l.objects) (drop (2 * l.predicates) l.slices), length-drop (2 * l.predicates) l.slices, counts.shared, counts.objects, length-all_objects terms)
length-group_in l can terms counts Po = let slices = can.slices in omega (arith, length-drop (2 * l.predicates + (l.shared + l.objects)) l.slices, counts.shared, counts.subjects, length-all_subjects terms)

-- ---- of terms and of families that were laid out

pub terms_in-table : (terms : Terms) (l : Layout) → TermCounts terms l → l.texts ≡ term_table terms → terms_in l ≡ terms
terms_in-table terms l counts texts =
    let again = four_again terms.shared terms.subjects terms.objects terms.predicates l.shared l.subjects l.objects counts.shared counts.subjects counts.objects in
    λ i. record {
      shared = (ap (take l.shared) texts ∙ again.first) i;
      subjects = (ap (λ xs. take l.subjects (drop l.shared xs)) texts ∙ again.second) i;
      objects = (ap (λ xs. take l.objects (drop (l.shared + l.subjects) xs)) texts ∙ again.third) i;
      predicates = (ap (drop (l.shared + l.subjects + l.objects)) texts ∙ again.fourth) i;
    }

pub group_in-families : (l : Layout) (groups : Family → List (List ℕ)) → length (groups So) ≡ l.predicates → length (groups Os) ≡ l.predicates → length (groups Ps) ≡ l.shared + l.objects
    → l.slices ≡ groups So ++ (groups Os ++ (groups Ps ++ groups Po)) → (f : Family) → group_in l f ≡ groups f
group_in-families l groups so os ps are So = ap (take l.predicates) are ∙ (four_again (groups So) (groups Os) (groups Ps) (groups Po) l.predicates l.predicates (l.shared + l.objects) so os ps).first
group_in-families l groups so os ps are Os = ap (λ xs. take l.predicates (drop l.predicates xs)) are ∙ (four_again (groups So) (groups Os) (groups Ps) (groups Po) l.predicates l.predicates (l.shared + l.objects) so os ps).second
group_in-families l groups so os ps are Ps =
    let twice : 2 * l.predicates ≡ l.predicates + l.predicates = omega arith in
    (λ i. take (l.shared + l.objects) (drop (twice i) (are i))) ∙ (four_again (groups So) (groups Os) (groups Ps) (groups Po) l.predicates l.predicates (l.shared + l.objects) so os ps).third
group_in-families l groups so os ps are Po =
    let twice : 2 * l.predicates ≡ l.predicates + l.predicates = omega arith in
    (λ i. drop (twice i + (l.shared + l.objects)) (are i)) ∙ (four_again (groups So) (groups Os) (groups Ps) (groups Po) l.predicates l.predicates (l.shared + l.objects) so os ps).fourth
