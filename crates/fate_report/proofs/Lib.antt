mod WordsInTurn
