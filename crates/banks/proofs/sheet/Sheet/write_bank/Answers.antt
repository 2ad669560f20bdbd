use Rattle.std.proofs.Common.{length, ap, arith}
use Rattle.sorts.specs.Sealed.{sort_of}
use Rattle.banks.specs.Sheets.{relation}
use Rattle.banks.proofs.Sound.{meets_codable}
use Rattle.banks.proofs.sheet.Sheet.write_bank.Goals as goal

pub put_bank-requires : goal.put_bank-requires
put_bank-requires c =
    let s = c.args.self.now in record {
      few = omega (arith, c.columns.ensures.few);
      counted = omega (arith, ap length c.deref.ensures.value, s.rows.ok.0, s.fits, s.small);
      codable = rw c.deref.ensures.value (meets_codable (sort_of s.sort) (relation s) s.sound);
    }
