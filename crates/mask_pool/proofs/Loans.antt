-- What a caller knows of a pool whose mask it wrote.
use Rattle.std.proofs.Common.{◌≡◌, ℕ, ◌-◌, List, length, drop, arith, refl, length-take, length-drop}
use Rattle.mask_pool.specs.Mask.{Stretch, words_for, end_of, DoNotOverlap}
use Rattle.mask_pool.specs.Region.{Region, IsLive, words_of, Stays, Wrote}
use Rattle.mask_pool.specs.Loan.{with_words}
use Rattle.mask_pool.proofs.PartLaws.{length-spliced, part-spliced, part-spliced_apart}

-- a mask has as many words as its bits take
pub length-words_of : (p : Region) (m : Stretch) → IsLive p m → length (words_of p m) ≡ words_for m.bits
length-words_of p m live = omega (arith, length-take (end_of m - m.start) (drop m.start p.words), length-drop m.start p.words)

module _ (p : Region) (m : Stretch) (ws : List ℕ) where
  length-with_words : IsLive p m → length (with_words p m.start ws).words ≡ length p.words
  unfolding with_words
  length-with_words live = length-spliced p.words ws m.start (omega arith)

  -- what is written through a mask stays in it
  pub wrote : IsLive p m → length ws ≡ words_for m.bits → Wrote p (with_words p m.start ws) m ws
  unfolding with_words
  wrote live size =
      let same = length-with_words live in
      record {
        words = part-spliced p.words ws m.start (end_of m) (omega arith) live;
        others = λ other was apart. record { live = omega arith; words = part-spliced_apart p.words ws m.start (end_of m) other.start (end_of other) (omega arith) live was (omega arith) };
        live = λ other was. omega arith;
        spare = refl;
        room = omega arith;
      }

  -- the mask has what was written
  pub words_of-with_words : IsLive p m → length ws ≡ words_for m.bits → words_of (with_words p m.start ws) m ≡ ws
  words_of-with_words live size = (wrote live size).words

  -- a mask that does not overlap it has its old words
  pub words_of-with_words_apart : (other : Stretch) → IsLive p m → length ws ≡ words_for m.bits → IsLive p other → DoNotOverlap other m → words_of (with_words p m.start ws) other ≡ words_of p other
  words_of-with_words_apart other live size was apart = ((wrote live size).others other was apart).words

  -- and is live still, as every mask is
  pub stays : (other : Stretch) → IsLive p m → length ws ≡ words_for m.bits → IsLive p other → DoNotOverlap other m → Stays p (with_words p m.start ws) other
  stays other live size was apart = (wrote live size).others other was apart

  pub live-with_words : (other : Stretch) → IsLive p m → IsLive p other → IsLive (with_words p m.start ws) other
  live-with_words other live was = let same = length-with_words live in omega arith

  pub length-words-with_words : IsLive p m → length (with_words p m.start ws).words ≡ length p.words
  length-words-with_words live = length-with_words live

  pub spare-with_words : (with_words p m.start ws).spare ≡ p.spare
  unfolding with_words
  spare-with_words = refl

-- what a caller of write or pair cites
pub ruleset loans = (wrote, words_of-with_words, words_of-with_words_apart, stays, live-with_words, length-words-with_words, spare-with_words, length-words_of)
