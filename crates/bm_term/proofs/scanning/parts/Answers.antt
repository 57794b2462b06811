use Rattle.bm_term.proofs.PartsLaws.{Found, canonical_utf8, found_is_canonical, found_where_canonical, found_are_parts}
use Rattle.bm_term.proofs.scanning.parts.Goals as goal

pub returns-in-Ok-clause-canonical : goal.returns-in-Ok-clause-canonical
returns-in-Ok-clause-canonical c =
    let (same, utf8) = c.in-Ok.ensures.cases in
    let found : Found c.args.bytes.now utf8 c.scan_term.result = record { parts = rw same at c.scan_term.ensures.parts; utf8 = c.scan_term.ensures.utf8 } in (
      λ some. found_is_canonical c.args.bytes.now utf8 c.scan_term.result found some,
      λ is. found_where_canonical c.args.bytes.now utf8 c.scan_term.result found is,
    )

pub returns-in-Ok-clause-parts : goal.returns-in-Ok-clause-parts
returns-in-Ok-clause-parts c =
    let (same, utf8) = c.in-Ok.ensures.cases in
    let found : Found c.args.bytes.now utf8 c.scan_term.result = record { parts = rw same at c.scan_term.ensures.parts; utf8 = c.scan_term.ensures.utf8 } in
    found_are_parts c.args.bytes.now utf8 c.scan_term.result found

pub returns-in-Err-clause-canonical : goal.returns-in-Err-clause-canonical
returns-in-Err-clause-canonical c =
    (λ e. absurd (cc), λ is. absurd (c.in-Err.ensures.cases.0 (canonical_utf8 c.args.bytes.now is)))
