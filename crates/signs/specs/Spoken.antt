-- What the signs of the program say.
use Rattle.conditions.specs.Meaning.{sign_of}
use Rattle.grammar.specs.Signs as grammar
use Rattle.signs.specs.declared.sign.Keyword.{Keyword}
use Rattle.signs.specs.declared.sign.Keyword.TheVariants.{And, As, Default, Drop, Join, Not, Or, Rename, Select}
use Rattle.signs.specs.declared.sign.Sign.{Sign}
use Rattle.signs.specs.declared.sign.Sign.TheVariants.{Word, Number, Quoted, Key, Comparing, Opening, Closing, Stray, Broken}
use Rattle.signs.specs.declared.cutting.Piece.{Piece}

abbrev pub keyword : Keyword → grammar.Keyword
keyword And = grammar.AND
keyword As = grammar.AS
keyword Default = grammar.DEFAULT
keyword Drop = grammar.DROP
keyword Join = grammar.JOIN
keyword Not = grammar.NOT
keyword Or = grammar.OR
keyword Rename = grammar.RENAME
keyword Select = grammar.SELECT

abbrev pub said : Sign → grammar.Sign
said (Word w) = grammar.word w.now
said (Number w) = grammar.number w.now
said (Quoted w) = grammar.quoted w.now
said (Key k) = grammar.key (keyword k)
said (Comparing c) = grammar.comparing (sign_of c)
said Opening = grammar.opening
said Closing = grammar.closing
said Stray = grammar.stray
said (Broken q) = grammar.broken q

abbrev pub cut : Piece → grammar.Piece
cut p = grammar.piece (said p.sign) p.more
