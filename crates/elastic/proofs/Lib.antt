mod CountsFit
