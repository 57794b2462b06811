-- Laws of texts that are tried one after the other, and of two lists that ascend and have no text in common.
use Rattle.std.proofs.Common.{◌≡◌, ◌↔◌, ◌⊎◌, inl, inr, ℕ, ◌+◌, ◌<◌, ◌≤◌, true, zero, suc, List, [], ◌∷◌, length, drop, Contains, refl, sym, ◌∙◌, ap, subst, arith}
use Rattle.std.proofs.lemmas.List.{drop_all}
use Rattle.std.proofs.lemmas.List.Elements.{All-contains, All-from_recursion, Contains-append_cases, Contains-append_left, Contains-append_right}
use Rattle.std.proofs.lemmas.Map.Keys.{sorted_tail}
use Rattle.std.specs.List.{AllByRecursion}
use Rattle.std.specs.List.Sorted.{IsStrictlySortedBy}
use Rattle.std.specs.Ordering.{ordering_reverse, is_lt}
use Rattle.std.specs.declared.cmp.Ordering.{Ordering}
use Rattle.std.specs.declared.cmp.Ordering.TheVariants.{Less, Equal, Greater}
use Rattle.bm_term.proofs.Elements.{Contains-head, Contains-tail, Contains-cons_cases, Contains-nil}
use Rattle.term_numbers.specs.Numbering.{Terms}
use Rattle.term_numbers.specs.Order.{text_cmp}
use Rattle.term_numbers.proofs.Ascending.{text_cmp-total, text_cmp-exact}
use Rattle.term_numbers.proofs.Ascending.{all_from_members, member_of_all, not_below_itself}
use Rattle.index_file.proofs.StoredLaws.{node_is_canonical, text_has_bytes}
use Rattle.index_file.specs.Conditions.{AreCanonical, AreOrdered}
use Rattle.index_file.specs.steps.Groups.{HasKind, Follow, Follows, IsGroupOf, AreGroups, AreApart, AreNodesApart}
use Rattle.index_file.specs.declared.terms.TextKind.{TextKind}
use Rattle.index_file.specs.declared.terms.TextKind.TheVariants.{Node, Predicate, Term}

abbrev IsAfter : List ℕ → List ℕ → Type 0
IsAfter x y = text_cmp x y ≡ Less

-- ---- texts one after the other

-- a text that is before another is before all that are after that
before_all : (x y : List ℕ) (ys : List (List ℕ)) → IsAfter x y → AllByRecursion (IsAfter y) ys → AllByRecursion (IsAfter x) ys
before_all x y [] less all = tt
before_all x y (z ∷ zs) less all = (text_cmp-total.trans x y z less all.0, before_all x y zs less all.1)

-- texts that follow a text: they are after it, have their kind, and ascend
record AreAfter (kind : TextKind) (before : List ℕ) (xs : List (List ℕ)) : Type 0 where
  after : AllByRecursion (IsAfter before) xs
  kinds : AllByRecursion (HasKind kind) xs
  ascend : IsStrictlySortedBy text_cmp xs

follow_after : (kind : TextKind) (before : List ℕ) (xs : List (List ℕ)) → Follow kind before xs → AreAfter kind before xs
unfolding IsStrictlySortedBy
follow_after kind before [] follow = record { after = tt; kinds = tt; ascend = tt }
follow_after kind before (x ∷ xs) follow =
    let rest = follow_after kind x xs follow.1 in
    record {
      after = (follow.0.0, before_all before x xs follow.0.0 rest.after);
      kinds = (follow.0.1, rest.kinds);
      ascend = (rest.after, rest.ascend);
    }

after_follow : (kind : TextKind) (before : List ℕ) (xs : List (List ℕ)) → AllByRecursion (IsAfter before) xs → AllByRecursion (HasKind kind) xs → IsStrictlySortedBy text_cmp xs → Follow kind before xs
unfolding IsStrictlySortedBy
after_follow kind before [] after kinds ascend = tt
after_follow kind before (x ∷ xs) after kinds ascend =
    ((after.0, kinds.0), after_follow kind x xs ascend.0 kinds.1 ascend.1)

-- a text of a kind is after the empty text
kind_has_bytes : (kind : TextKind) (x : List ℕ) → HasKind kind x → 0 < length x
kind_has_bytes Node x is = text_has_bytes x (node_is_canonical x is)
kind_has_bytes Predicate x is = text_has_bytes x is.canonical
kind_has_bytes Term x is = text_has_bytes x is

after_empty : (x : List ℕ) → 0 < length x → IsAfter [] x
after_empty [] some = absurd (omega arith)
after_empty (b ∷ bs) some = refl

-- a group is texts that follow the empty text
pub group_follows : (kind : TextKind) (xs : List (List ℕ)) → IsGroupOf kind xs ↔ Follow kind [] xs
group_follows kind xs = (
  λ group.
      let kinds = all_from_members (HasKind kind) xs (λ x there. All-contains (HasKind kind) xs x group.kinds there) in
      let after = all_from_members (IsAfter []) xs (λ x there. after_empty x (kind_has_bytes kind x (All-contains (HasKind kind) xs x group.kinds there))) in
      after_follow kind [] xs after kinds group.ascend,
  λ follow.
      let are = follow_after kind [] xs follow in
      record { kinds = All-from_recursion (HasKind kind) xs are.kinds; ascend = are.ascend },
)

-- the first text follows, and the others follow it
pub follow_step : (kind : TextKind) (before x : List ℕ) (xs rest : List (List ℕ)) → xs ≡ x ∷ rest → Follow kind before xs ↔ (Follows kind before x × Follow kind x rest)
follow_step kind before x xs rest at = subst (λ l. Follow kind before l ↔ (Follows kind before x × Follow kind x rest)) (sym at) ((λ follow. follow), (λ follow. follow))

-- nothing is left to follow
pub follow_nothing : (kind : TextKind) (before : List ℕ) (i : ℕ) (xs : List (List ℕ)) → length xs ≤ i → Follow kind before (drop i xs)
follow_nothing kind before i xs past = rw (drop_all i xs past) tt

-- a test of one text being before another
pub is_lt_less : (r : Ordering) → (is_lt r ≡ true) ↔ (r ≡ Less)
is_lt_less Less = ((λ _. refl), (λ _. refl))
is_lt_less Equal = ((λ never. absurd cc), (λ never. absurd cc))
is_lt_less Greater = ((λ never. absurd cc), (λ never. absurd cc))

-- ---- no text in common

pub apart_nil_left : (ys : List (List ℕ)) → AreApart [] ys
apart_nil_left ys z there other = Contains-nil z there

pub apart_nil_right : (xs : List (List ℕ)) → AreApart xs []
apart_nil_right xs z there other = Contains-nil z other

apart_swap : (xs ys : List (List ℕ)) → AreApart xs ys → AreApart ys xs
apart_swap xs ys apart z there other = apart z other there

-- a text that is before the first of a list that ascends is not in it
pub not_in_later : (x y : List ℕ) (ys : List (List ℕ)) → IsStrictlySortedBy text_cmp (y ∷ ys) → IsAfter x y → Contains (y ∷ ys) x → ⊥
unfolding IsStrictlySortedBy
not_in_later x y ys ascend less there =
    not_below_itself text_cmp text_cmp-total x (member_of_all (IsAfter x) (y ∷ ys) (less, before_all x y ys less ascend.0) x there)

pub apart_less : (x : List ℕ) (xs : List (List ℕ)) (y : List ℕ) (ys : List (List ℕ)) → IsStrictlySortedBy text_cmp (y ∷ ys) → text_cmp x y ≡ Less → AreApart (x ∷ xs) (y ∷ ys) ↔ AreApart xs (y ∷ ys)
apart_less x xs y ys ascend less = (
  λ apart z there other. apart z (Contains-tail x xs z there) other,
  λ apart z there other. by apart z (Contains-cons_cases x xs z there) other,
)
  where
    by : AreApart xs (y ∷ ys) → (z : List ℕ) → (x ≡ z) ⊎ Contains xs z → Contains (y ∷ ys) z → ⊥
    by apart z (inl same) other = not_in_later x y ys ascend less (subst (Contains (y ∷ ys)) (sym same) other)
    by apart z (inr there) other = apart z there other

pub apart_greater : (x : List ℕ) (xs : List (List ℕ)) (y : List ℕ) (ys : List (List ℕ)) → IsStrictlySortedBy text_cmp (x ∷ xs) → text_cmp x y ≡ Greater → AreApart (x ∷ xs) (y ∷ ys) ↔ AreApart (x ∷ xs) ys
apart_greater x xs y ys ascend greater =
    let less : text_cmp y x ≡ Less = text_cmp-total.antisymm y x ∙ ap ordering_reverse greater in
    let both = apart_less y ys x xs ascend less in (
      λ apart. apart_swap ys (x ∷ xs) (both.0 (apart_swap (x ∷ xs) (y ∷ ys) apart)),
      λ apart. apart_swap (y ∷ ys) (x ∷ xs) (both.1 (apart_swap (x ∷ xs) ys apart)),
    )

pub apart_equal : (x : List ℕ) (xs : List (List ℕ)) (y : List ℕ) (ys : List (List ℕ)) → text_cmp x y ≡ Equal → AreApart (x ∷ xs) (y ∷ ys) → ⊥
apart_equal x xs y ys tie apart =
    apart x (Contains-head x xs) (subst (Contains (y ∷ ys)) (sym (text_cmp-exact x y tie)) (Contains-head y ys))

-- nothing is left of one of the lists
pub apart_past_left : (i : ℕ) (xs ys : List (List ℕ)) → length xs ≤ i → AreApart (drop i xs) ys
apart_past_left i xs ys past = subst (λ l. AreApart l ys) (sym (drop_all i xs past)) (apart_nil_left ys)

pub apart_past_right : (i : ℕ) (xs ys : List (List ℕ)) → length ys ≤ i → AreApart xs (drop i ys)
apart_past_right i xs ys past = subst (AreApart xs) (sym (drop_all i ys past)) (apart_nil_right xs)

-- what is left of a list that ascends does so
pub ascends_drop : (i : ℕ) (xs : List (List ℕ)) → IsStrictlySortedBy text_cmp xs → IsStrictlySortedBy text_cmp (drop i xs)
ascends_drop zero xs ascend = ascend
ascends_drop (suc i) [] ascend = ascend
ascends_drop (suc i) (x ∷ xs) ascend = ascends_drop i xs (sorted_tail text_cmp x xs ascend)

-- the first of what is left of two lists is passed where it is before the other
pub pass_left : (i j : ℕ) (x y : List ℕ) (xs ys : List (List ℕ)) → IsStrictlySortedBy text_cmp ys → drop i xs ≡ x ∷ drop (i + 1) xs → drop j ys ≡ y ∷ drop (j + 1) ys → text_cmp x y ≡ Less → AreApart (drop i xs) (drop j ys) ↔ AreApart (drop (i + 1) xs) (drop j ys)
pass_left i j x y xs ys ascend at there less =
    let tail = subst (IsStrictlySortedBy text_cmp) there (ascends_drop j ys ascend) in
    subst (λ l. AreApart (drop i xs) l ↔ AreApart (drop (i + 1) xs) l) (sym there)
    (subst (λ l. AreApart l (y ∷ drop (j + 1) ys) ↔ AreApart (drop (i + 1) xs) (y ∷ drop (j + 1) ys)) (sym at) (apart_less x (drop (i + 1) xs) y (drop (j + 1) ys) tail less))

pub pass_right : (i j : ℕ) (x y : List ℕ) (xs ys : List (List ℕ)) → IsStrictlySortedBy text_cmp xs → drop i xs ≡ x ∷ drop (i + 1) xs → drop j ys ≡ y ∷ drop (j + 1) ys → text_cmp x y ≡ Greater → AreApart (drop i xs) (drop j ys) ↔ AreApart (drop i xs) (drop (j + 1) ys)
pass_right i j x y xs ys ascend at there greater =
    let tail = subst (IsStrictlySortedBy text_cmp) at (ascends_drop i xs ascend) in
    subst (λ l. AreApart l (drop j ys) ↔ AreApart l (drop (j + 1) ys)) (sym at)
    (subst (λ l. AreApart (x ∷ drop (i + 1) xs) l ↔ AreApart (x ∷ drop (i + 1) xs) (drop (j + 1) ys)) (sym there) (apart_greater x (drop (i + 1) xs) y (drop (j + 1) ys) tail greater))

pub never_apart : (i j : ℕ) (x y : List ℕ) (xs ys : List (List ℕ)) → drop i xs ≡ x ∷ drop (i + 1) xs → drop j ys ≡ y ∷ drop (j + 1) ys → text_cmp x y ≡ Equal → AreApart (drop i xs) (drop j ys) → ⊥
never_apart i j x y xs ys at there tie apart =
    apart_equal x (drop (i + 1) xs) y (drop (j + 1) ys) tie (subst (AreApart (x ∷ drop (i + 1) xs)) there (subst (λ l. AreApart l (drop j ys)) at apart))

-- ---- the condition on terms

pub terms_are : (terms : Terms) → AreGroups terms → AreNodesApart terms → AreCanonical terms × AreOrdered terms
terms_are terms groups apart = (
  record {
    shared = groups.shared.kinds;
    subjects = groups.subjects.kinds;
    objects = groups.objects.kinds;
    predicates = groups.predicates.kinds;
  },
  record {
    shared = groups.shared.ascend;
    subjects = groups.subjects.ascend;
    objects = groups.objects.ascend;
    predicates = groups.predicates.ascend;
    shared_alone = λ x there other. by x there (Contains-append_cases terms.subjects terms.objects x other);
    subjects_alone = apart.alone;
  },
)
  where
    by : (x : List ℕ) → Contains terms.shared x → Contains terms.subjects x ⊎ Contains terms.objects x → ⊥
    by x there (inl subject) = apart.from_subjects x there subject
    by x there (inr object) = apart.from_objects x there object

pub groups_from_terms : (terms : Terms) → AreCanonical terms → AreOrdered terms → AreGroups terms
groups_from_terms terms canonical ordered = record {
  shared = record { kinds = canonical.shared; ascend = ordered.shared };
  subjects = record { kinds = canonical.subjects; ascend = ordered.subjects };
  objects = record { kinds = canonical.objects; ascend = ordered.objects };
  predicates = record { kinds = canonical.predicates; ascend = ordered.predicates };
}

pub apart_from_terms : (terms : Terms) → AreOrdered terms → AreNodesApart terms
apart_from_terms terms ordered = record {
  from_subjects = λ x there other. ordered.shared_alone x there (Contains-append_left terms.subjects terms.objects x other);
  from_objects = λ x there other. ordered.shared_alone x there (Contains-append_right terms.subjects terms.objects x other);
  alone = ordered.subjects_alone;
}
