-- A closure may go to another thread where what it takes may, and a reader of the board may: its place, its edition and what it was told of may.
use mathlib.Core.List.{List, [], ◌∷◌}
use denote.Builtin.{Array}
use denote.RattleType.{RattleType}
use denote.Param.Send.{AllSend, IsSend, view_send, sendable}
use denote.Param.SendFields.{FieldsHave, declared_send, as_row_send}
use denote.Struct.Field.{row_field}
use denote.Struct.Tuple.{TupleAt, parts, type_at}
use Rattle.std.proofs.Common.{ℕ}
use Rattle.std.proofs.Crossing.{crosses, frees}
use Rattle.std.proofs.alloc.Global.TheSendSync as GlobalCrosses
use Rattle.std.specs.contracts.alloc.Global
use Rattle.std.specs.contracts.impls.GlobalAllocator.TheImpl.{ghosts}
use Rattle.core.proofs.option.Option.TheSendSync as OptionCrosses
use Rattle.left_right.proofs.reader.Reader.TheSendSync as ReaderCrosses
use Rattle.left_right.specs.contracts.reader.Reader
use Rattle.logbook.proofs.tokens.Seen.TheSendSync as SeenCrosses
use Rattle.ada_events.specs.contracts.board.Board
use Rattle.ada_board.proofs.edition.Edition.TheSendSync as EditionCrosses
use Rattle.ada_board.proofs.shown.Shown.TheSendSync as ShownCrosses
use Rattle.ada_board.proofs.told.Chain.TheLaws.TheKnot.{send-Chain}
use Rattle.ada_board.specs.contracts.publishing.Publishing
use Rattle.ada_board.specs.contracts.publishing.PublishingProtocolShownSighted.TheImpl as Protocol
use Rattle.ada_board.specs.contracts.reader.BoardReader
use Rattle.ada_board.specs.contracts.reader.BoardReader.TheInside
use Rattle.ada_board.specs.contracts.shown.Shown
use Rattle.ada_board.specs.contracts.told.Chain
use Rattle.ada_board.specs.contracts.told.Told
use Rattle.ada_board.specs.contracts.told.Told.TheInside as ToldInside
use Rattle.ada_board.specs.declared.history.Naming

parts_are_send : (Ts : List RattleType) → AllSend Ts → FieldsHave IsSend (parts Ts)
parts_are_send [] s = tt
parts_are_send (T ∷ Ts) s = (as_row_send (row_field T) s.0, parts_are_send Ts s.1)

pub captures_are_send : (name : List ℕ) (Ts : List RattleType) → AllSend Ts → IsSend (TupleAt name Ts)
captures_are_send name Ts s = declared_send (type_at name Ts) (parts_are_send Ts s)

told_is_send : IsSend Told.the_row
told_is_send =
    let chain : IsSend (Chain.the_field).row = send-Chain (λ h _. search (crosses, sendable)) (search (crosses, sendable)) in
    view_send ToldInside.the_row _ _ _ _ (declared_send ToldInside.the_type (as_row_send Chain.the_field chain, tt))

module _ (T : RattleType) (g : Naming.Ghosts T.Denot) where
  abbrev place : RattleType
  place = Reader.the_row Shown.the_row (Array Board.the_row tt 0) (Publishing.the_row T) Global.the_row (Protocol.ghosts T g Protocol.no_dict) ghosts

  place_is_send : IsSend place
  place_is_send =
      ReaderCrosses.the_send Shown.the_row (Array Board.the_row tt 0) (Publishing.the_row T) Global.the_row (Protocol.ghosts T g Protocol.no_dict) ghosts
      GlobalCrosses.the_send ShownCrosses.the_sync GlobalCrosses.the_sync frees

  pub reader_is_send : IsSend (BoardReader.the_row T g)
  reader_is_send =
      let inside : IsSend (TheInside.the_row T g) =
      declared_send (TheInside.the_type T g)
      (OptionCrosses.the_send place place_is_send, (EditionCrosses.the_send, (search (SeenCrosses.the_send, crosses, sendable), (told_is_send, tt)))) in
      view_send (TheInside.the_row T g) _ _ _ _ inside
